-- `fast::token::miravoly_sound_allocate_with_token` meets its contract: the answer of the inner form and its token in numbers. Assumes nothing.
use Rattle.arena.specs.declared.Arena.{Arena}
use Rattle.calls.specs.Token.{with_token_of}
use Rattle.fast.proofs.InParts.{token-in-parts}
use Rattle.fast.proofs.token.miravoly_sound_allocate_with_token.Goals as goal

pub returns : goal.returns
returns c =
    let s = c.args in
    let both =
    token-in-parts c.sound_in-sound.ensures (λ (a : Arena). with_token_of a a.head.region s.size s.align) _ c.allocate_with_token_placed-got.ensures
    c.said_token.ensures c.make_in_parts.ensures in
    record { value = both.0; pointers_after = both.1 }
