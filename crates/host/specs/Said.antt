-- What a call answers a host in plain numbers: document 01's number of the refusal, or 0, and the block's offset.
use Rattle.std.specs.Prelude.{ℕ, Err, Ok}
use Rattle.arena.specs.Refusals.{number_of, Answer, Given}
use Rattle.calls.specs.declared.Token.{Token}
use Rattle.calls.specs.declared.TokenAllocation.{TokenAllocation}
use Rattle.host.specs.declared.Said.{Said}
use Rattle.host.specs.declared.SaidPart.{SaidPart}
use Rattle.host.specs.declared.SaidToken.{SaidToken}

abbrev pub said : ℕ → ℕ → Said
said refusal offset = record { refusal = refusal; offset = offset }

-- of a call that gives out no block
unfoldable pub said_of : Answer → Said
said_of (Ok u) = said 0 0
said_of (Err r) = said (number_of r) 0

-- of a call that gives one out
unfoldable pub said_given : Given → Said
said_given (Ok offset) = said 0 offset
said_given (Err r) = said (number_of r) 0

-- of one that records a token too
abbrev pub token_said : Given → Token → SaidToken
token_said answer token =
    record {
      refusal = (said_given answer).refusal;
      offset = (said_given answer).offset;
      count = token.count;
      pointer = token.pointer;
    }

unfoldable pub said_token : TokenAllocation → SaidToken
said_token got = token_said got.answer got.token

-- of lending: the part, which is empty where it is refused
abbrev pub said_at : ℕ → ℕ → ℕ → SaidPart
said_at refusal offset length = record { refusal = refusal; offset = offset; length = length }

unfoldable pub said_part : Answer → ℕ → ℕ → SaidPart
said_part (Ok u) offset size = said_at 0 offset size
said_part (Err r) offset size = said_at (number_of r) 0 0
