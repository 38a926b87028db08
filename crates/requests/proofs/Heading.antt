-- The header in pieces: its first six bytes settle it, whatever follows, and with fewer it is kept. Assumes nothing.
use Prim.Native.Nat.{ℕ, ◌≤◌, ◌<◌}
use native.Mathlib.Omega.{arith}
use mathlib.Core.Bool.{Bool, true, false, cond}
use mathlib.Core.List.{List, [], ◌∷◌, ◌++◌, append_assoc, append-nil}
use Rattle.std.specs.Prelude.{None}
use mathlib.Core.Path.{◌≡◌, refl}
use lib.Dec.{ltb}
use lib.ListN.{length, drop, length-append, get_or-append}
use lib.Seq.{drop_at}
use borrow.Author.Tests.{le-leb, lt-leb, lt-ltb, le-ltb, ltb-true, ltb-false}
use Rattle.rounding.specs.First.{only}
use Rattle.requests.specs.Bytes.{number32}
use Rattle.requests.specs.Header.{header_size, good_header, header_of, memory_for}
use Rattle.requests.specs.Machine.{Machine, heading, machine_at, headed, header_fed, fed_at, fed}

pub header-stays : (p q : List ℕ) → header_size ≤ length p → header_of (p ++ q) ≡ header_of p
unfolding header_of good_header number32
header-stays p q h =
    rw (
      le-leb header_size (length p) h,
      le-leb header_size (length (p ++ q)) (simp length-append (omega arith)),
      get_or-append p q 0 0 (omega arith),
      get_or-append p q 0 1 (omega arith),
      get_or-append p q 0 2 (omega arith),
      get_or-append p q 0 3 (omega arith),
      get_or-append p q 0 4 (omega arith),
      get_or-append p q 0 5 (omega arith),
    )

pub short-header : (p : List ℕ) → length p < header_size → header_of p ≡ None
unfolding header_of good_header only
short-header p h = rw (lt-leb header_size (length p) h)

-- what a run comes to that has read these bytes and no more
unfoldable pub opened_by : List ℕ → List ℕ → Machine
opened_by lent bytes =
    cond (ltb (length bytes) header_size)
    (machine_at heading 1 (memory_for lent None) bytes [])
    (fed lent (headed lent (header_of bytes)) (drop header_size bytes))

head-on : (lent pending bytes : List ℕ) → length pending < header_size →
    fed lent (machine_at heading 1 (memory_for lent None) pending []) bytes ≡ opened_by lent (pending ++ bytes)
unfolding fed fed_at header_fed opened_by
head-on lent pending [] h = rw (append-nil pending, lt-ltb (length pending) header_size h)
head-on lent pending (b ∷ bytes) h =
    rw (← append_assoc pending (b ∷ []) bytes)
    (go (ltb (length (pending ++ (b ∷ []))) header_size) refl (head-on lent (pending ++ (b ∷ [])) bytes))
  where
    more : List ℕ
    more = pending ++ (b ∷ [])

    go : (t : Bool) → ltb (length more) header_size ≡ t →
        (length more < header_size → fed lent (machine_at heading 1 (memory_for lent None) more []) bytes ≡ opened_by lent (more ++ bytes)) →
        fed lent (cond t (machine_at heading 1 (memory_for lent None) more []) (headed lent (header_of more))) bytes ≡ opened_by lent (more ++ bytes)
    go true t again = again (ltb-true (length more) header_size t)
    go false t again =
        let enough : header_size ≤ length more = ltb-false (length more) header_size t in
        let exact : length more ≡ header_size = omega (arith, length-append pending (b ∷ [])) in
        rw (le-ltb (length (more ++ bytes)) header_size (omega (arith, length-append more bytes)), header-stays more bytes enough, drop_at more bytes header_size exact)

pub opened : (lent bytes : List ℕ) → fed lent (machine_at heading 1 (memory_for lent None) [] []) bytes ≡ opened_by lent bytes
opened lent bytes = head-on lent [] bytes (omega arith)
