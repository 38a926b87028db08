-- Every case of the table holds, by one computation. Assumes nothing.
use mathlib.Core.Path.{◌≡◌, refl}
use mathlib.Core.Bool.{true}
use lib.Count.{ones, ones_in}
use Rattle.rounding.specs.Every.{every, any}
use Rattle.rounding.specs.First.{only, seek, first}
use Rattle.rounding.specs.Round.{multiple, round_down, round_up, one_bit, next_power}
use Rattle.arena.specs.Record.{chunks_of, column, holding}
use Rattle.arena.specs.Refusals.{refused_by, answered}
use Rattle.arena.specs.Sound.{allowed_align, allowed_minimum, limit_formed, head_sound, chunk_sound, clear, apart, unused_zero, table_sound, sound_of}
use Rattle.arena.specs.Sizing.{wanted, usable_for, usable}
use Rattle.arena.specs.Placing.{misses, fits, lowest_place}
use Rattle.arena.specs.Ladder.{held_bytes, current_size, first_base, small_limit, tried, under_limit, served_with, rung_chunk, ladder}
use Rattle.arena.specs.Creation.{refused_creation, first_chunks, created_with, creation, created_of, set_limit_of, kept_by_reset, reset_of}
use Rattle.calls.specs.Bytes.{written, carried, after_given}
use Rattle.calls.specs.Tests.{has_block, acceptable}
use Rattle.calls.specs.Allocate.{at_pointer, chunk_gives, current_gives, new_chunk_gives, or_ladder, allocate_in, given, allocate_of}
use Rattle.calls.specs.Free.{freed, free_of}
use Rattle.calls.specs.Grow.{grown_in_place, or_afresh, grow_in, grow_of, grow_bytes, grow_zeroed_bytes}
use Rattle.calls.specs.Shrink.{moved_up, shrunk_in_place, shrink_in, shrink_of, shrink_bytes}
use Rattle.calls.specs.Token.{token_for, token_given, with_token_of, off_current, bad_token, rewound, cancel_of}
use Rattle.calls.specs.Write.{copy_in_bytes}
use Rattle.sequence.specs.Ledger.{kept, noted, choose}
use Rattle.sequence.specs.History.{if_given, if_done, cancel_with, write_step, on_chosen, step, run, created}
use Rattle.sequence.specs.Cases.{cases}
use Rattle.std.specs.Prelude.{Ok}

pub cases-hold : every (λ b. b) cases ≡ true
unfolding ones ones_in every any only seek first multiple round_down round_up one_bit next_power chunks_of column holding refused_by answered
    allowed_align allowed_minimum limit_formed head_sound chunk_sound clear apart unused_zero table_sound sound_of wanted usable_for usable
    misses fits lowest_place held_bytes current_size first_base small_limit tried under_limit served_with rung_chunk ladder
    refused_creation first_chunks created_with creation created_of set_limit_of kept_by_reset reset_of written carried after_given has_block acceptable
    at_pointer chunk_gives current_gives new_chunk_gives or_ladder allocate_in given allocate_of freed free_of grown_in_place or_afresh grow_in grow_of
    grow_bytes grow_zeroed_bytes moved_up shrunk_in_place shrink_in shrink_of shrink_bytes token_for token_given with_token_of off_current bad_token rewound
    cancel_of copy_in_bytes kept noted choose if_given if_done cancel_with write_step on_chosen step run created
cases-hold = refl

-- the creations that the cases begin with are served, so that the theorem speaks of their states
pub cases-created : ((created_of 65536 1 0).answer ≡ (Ok tt)) × ((created_of 4096 1 0).answer ≡ (Ok tt)) × ((created_of 4096 8 0).answer ≡ (Ok tt))
unfolding ones ones_in one_bit refused_by allowed_minimum first_chunks created_with creation created_of
cases-created = (refl, refl, refl)
