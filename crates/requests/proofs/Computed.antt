-- The files of the examples give their texts, by computation. Assumes nothing.
use mathlib.Core.Path.{◌≡◌, refl}
use mathlib.Core.List.{List}
use Prim.Native.Nat.{ℕ}
use lib.Count.{ones}
use lib.ListN.{replicate}
use Rattle.rounding.specs.Every.{every, any}
use Rattle.rounding.specs.First.{only, seek, first}
use Rattle.rounding.specs.Round.{multiple, one_bit, round_down, round_up, next_power}
use Rattle.arena.specs.Record.{chunks_of, column, holding}
use Rattle.arena.specs.Refusals.{refused_by, answered}
use Rattle.arena.specs.Sound.{allowed_align, allowed_minimum, limit_formed, head_sound, chunk_sound, clear, apart, unused_zero, table_sound, sound_of}
use Rattle.arena.specs.Sizing.{wanted, usable_for, usable}
use Rattle.arena.specs.Placing.{misses, fits, lowest_place}
use Rattle.arena.specs.Ladder.{held_bytes, current_size, first_base, small_limit, tried, under_limit, served_with, rung_chunk, ladder}
use Rattle.arena.specs.Creation.{refused_creation, first_chunks, created_with, creation, created_of, kept_by_reset, reset_of}
use Rattle.calls.specs.Bytes.{written, carried, after_given}
use Rattle.calls.specs.Tests.{has_block, acceptable}
use Rattle.calls.specs.Allocate.{at_pointer, chunk_gives, current_gives, new_chunk_gives, or_ladder, allocate_in, given, allocate_of}
use Rattle.calls.specs.Free.{freed, free_of}
use Rattle.calls.specs.Grow.{grown_in_place, or_afresh, grow_in, grow_of, grow_bytes}
use Rattle.requests.specs.Bytes.{number32}
use Rattle.requests.specs.Request.{request_by, request_of}
use Rattle.requests.specs.Front.{record_front, front_of}
use Rattle.requests.specs.Header.{good_header, header_of, memory_for}
use Rattle.requests.specs.Parsed.{parsed_from, parsed_within, parsed_of}
use Rattle.requests.specs.Run.{given_reply, answer_reply, run_in, answers}
use Rattle.requests.specs.Text.{digits_within, decimal, line_of, ending_line, lines_from, held_line}
use Rattle.requests.specs.Replay.{replayed_by, replay_of}
use Rattle.requests.specs.Examples.{first_night, first_night_text, short_header, later_version, bad_header_only, cut_inside, cut_inside_text, length_zero, unknown_code, bad_first, refusals, refusals_text}

-- the text of a file, with as many bytes lent as any region takes
abbrev text_of : List ℕ → List ℕ
text_of file = (replay_of (replicate 65536 0) file).text

examples :
    (text_of first_night ≡ first_night_text)
    × (text_of short_header ≡ bad_header_only)
    × (text_of later_version ≡ bad_header_only)
    × (text_of cut_inside ≡ cut_inside_text)
    × (text_of length_zero ≡ bad_first)
    × (text_of unknown_code ≡ bad_first)
    × (text_of refusals ≡ refusals_text)
unfolding ones every any only seek first multiple one_bit round_down round_up next_power chunks_of column holding refused_by answered
    allowed_align allowed_minimum limit_formed head_sound chunk_sound clear apart unused_zero table_sound sound_of wanted usable_for usable
    misses fits lowest_place held_bytes current_size first_base small_limit tried under_limit served_with rung_chunk ladder refused_creation
    first_chunks created_with creation created_of kept_by_reset reset_of written carried after_given has_block acceptable at_pointer chunk_gives
    current_gives new_chunk_gives or_ladder allocate_in given allocate_of freed free_of grown_in_place or_afresh grow_in grow_of grow_bytes number32
    request_by request_of record_front front_of good_header header_of memory_for parsed_from parsed_within parsed_of given_reply answer_reply run_in
    answers digits_within decimal line_of ending_line lines_from held_line replayed_by replay_of
examples = (refl, refl, refl, refl, refl, refl, refl)
