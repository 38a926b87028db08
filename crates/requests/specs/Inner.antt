-- What the contracts between our own functions say. Nothing of document 01 is decided here.
use Rattle.std.specs.Prelude.{ℕ, ◌+◌, ◌*◌, ◌≡◌, ◌<◌, length, cond, List, [], ◌∷◌, eqb, Result, Ok, Err, Some, None, MatchResult, Option}
use Rattle.arena.specs.declared.Arena.{Arena}
use Rattle.arena.specs.declared.Refusal.{Refusal}
use Rattle.arena.specs.Inner.{changed_by}
use Rattle.calls.specs.Bytes.{written}
use Rattle.requests.specs.declared.Request.TheVariants.{Allocate, Free, Grow, Shrink, Reset, SetLimit, NoLimit, AllocateWithToken, Cancel, Resize}
use Rattle.requests.specs.declared.Request.{Request as Code-as-Request}
use Rattle.requests.specs.declared.Record.{Record}
use Rattle.requests.specs.declared.Ending.{Ending}
use Rattle.requests.specs.declared.Ending.TheVariants.{Complete, CutOff, BadRecord}
use Rattle.requests.specs.declared.kind.NoRequest.{NoRequest}
use Rattle.requests.specs.declared.kind.Kind.{Kind}
use Rattle.requests.specs.declared.kind.Kind.TheVariants.{Allocate as Allocate·kind, Free as Free·kind, Grow as Grow·kind, Shrink as Shrink·kind, Reset as Reset·kind, SetLimit as SetLimit·kind, NoLimit as NoLimit·kind, AllocateWithToken as AllocateWithToken·kind, Cancel as Cancel·kind, Resize as Resize·kind}
use Rattle.requests.specs.declared.header.Header.{Header as Code-as-Header}
use Rattle.requests.specs.declared.run.Ran.{Ran as Code-as-Ran}
use Rattle.requests.specs.Request.{Request, allocate, free, grow, shrink, reset, set_limit, no_limit, allocate_with_token, cancel, resize, Form}
use Rattle.requests.specs.Run.{Reply, at_offset, done, refused, Ran, ran_to}
use Rattle.requests.specs.Front.{Front, nothing, part, bad, whole}
use Rattle.requests.specs.Header.{Header}

-- the request that a value of the code's type says
unfoldable pub request_said : Code-as-Request → Request
request_said (Allocate size align) = allocate size align
request_said (Free offset size align) = free offset size align
request_said (Grow offset old old_align new new_align) = grow offset old old_align new new_align
request_said (Shrink offset old old_align new new_align) = shrink offset old old_align new new_align
request_said Reset = reset
request_said (SetLimit limit) = set_limit limit
request_said NoLimit = no_limit
request_said (AllocateWithToken size align) = allocate_with_token size align
request_said (Cancel offset count pointer) = cancel offset count pointer
request_said (Resize offset old align new) = resize offset old align new

-- the request that a record was read as
unfoldable pub request_read : Result Code-as-Request NoRequest → Option Request
request_read (Ok r) = Some (request_said r)
request_read (Err e) = None

unfoldable pub front_said : Result Record Ending → Front
front_said (Ok r) = whole r.size (request_said r.request)
front_said (Err Complete) = nothing
front_said (Err CutOff) = part
front_said (Err BadRecord) = bad

-- the header that a value of the code's type says
unfoldable pub header_said : Option Code-as-Header → Option Header
header_said None = None
header_said (Some h) = Some (record { minimum = h.minimum; region = h.region })

-- the length that suits a code, and 0 for a code that is none
unfoldable pub size_by : List Form → ℕ → ℕ
size_by [] code = 0
size_by (f ∷ fs) code = cond (eqb code f.code) (1 + 4 * f.fields) (size_by fs code)

-- the code of a kind
abbrev pub code_of : Kind → ℕ
code_of Allocate·kind = 1
code_of Free·kind = 2
code_of Grow·kind = 3
code_of Shrink·kind = 4
code_of Reset·kind = 5
code_of SetLimit·kind = 6
code_of NoLimit·kind = 7
code_of AllocateWithToken·kind = 8
code_of Cancel·kind = 9
code_of Resize·kind = 10

-- the kind that has the code, or that none has
abbrev pub Decodes : ℕ → Result Kind NoRequest → Type 0
Decodes code r = MatchResult r (λ kind. code_of kind ≡ code) (λ _. 0 < code → 10 < code)

-- a text stands in the output from a place on, the rest is as it was, and the next place is past it
pub record Put (before : List ℕ) (at : ℕ) (text after : List ℕ) (next : ℕ) : Type 0 where
  pub bytes : after ≡ written before at text
  pub moved : next ≡ at + length text

-- the reply that a value of the code's type says
unfoldable pub reply_said : Result (Option ℕ) Refusal → Reply
reply_said (Ok (Some offset)) = at_offset offset
reply_said (Ok None) = done
reply_said (Err r) = refused r

-- what the code's run and the region's bytes after it say, once its change of the record is made
unfoldable pub ran_said : Arena → Code-as-Ran → List ℕ → Ran
ran_said a r bytes = ran_to (reply_said r.reply) (changed_by r.change a) bytes
