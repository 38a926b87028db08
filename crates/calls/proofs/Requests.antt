-- What allocate answers, test by test: each refusal where the tests before it pass, and the work where all do. Assumes nothing.
use Prim.Native.Nat.{ℕ, ◌≤◌, ◌<◌}
use mathlib.Core.Bool.{true, false}
use mathlib.Core.List.{List, [], ◌∷◌}
use Rattle.std.specs.Prelude.{None, Some, Err}
use mathlib.Core.Path.{◌≡◌, sym, ◌∙◌, ap}
use borrow.Author.Tests.{eq-eqb, ne_eqb, lt-ltb, le-ltb}
use Rattle.rounding.proofs.Tests.{true-not, false-not}
use Rattle.arena.specs.declared.Arena.{Arena}
use Rattle.arena.specs.declared.Refusal.{Refusal}
use Rattle.arena.specs.declared.Refusal.TheVariants.{State, Region, Size, Align}
use Rattle.arena.specs.Numbers.{most}
use Rattle.arena.specs.Record.{held_of}
use Rattle.arena.specs.Refusals.{Test, refused_by}
use Rattle.arena.specs.Sound.{allowed_align, sound_of, state_test}
use Rattle.arena.proofs.Refusing.{refused-now, refused-later, none-applies}
use Rattle.calls.specs.Tests.{region_test, size_test, align_test}
use Rattle.calls.specs.Allocate.{allocate_in, given, request_tests, allocate_of}
use Rattle.calls.specs.Inner.{Tested, lent_tests, first_of}
use Rattle.calls.proofs.Answering.{stopped-first}
use Rattle.calls.proofs.Testing.{tests-refuse}

module _ (a : Arena) (lent size align : ℕ) where
  refuses : {r : Refusal} → refused_by (request_tests a lent size align) ≡ Some r → allocate_of a lent size align ≡ given (Some r) a None
  unfolding allocate_of given
  refuses e = ap (λ o. given o a (allocate_in a.head (held_of a) size align)) e

  -- the tests after the first, and after the second
  abbrev from_region : List Test
  from_region = region_test a lent ∷ (size_test size ∷ (align_test align ∷ []))

  abbrev from_size : List Test
  from_size = size_test size ∷ (align_test align ∷ [])

  past-state : sound_of a ≡ true → refused_by (request_tests a lent size align) ≡ refused_by from_region
  past-state s = refused-later (state_test a) from_region (true-not s)

  past-region : sound_of a ≡ true → lent ≡ a.head.region → refused_by (request_tests a lent size align) ≡ refused_by from_size
  past-region s e = past-state s ∙ refused-later (region_test a lent) from_size (true-not (eq-eqb lent a.head.region e))

  pub allocate-state : sound_of a ≡ false → allocate_of a lent size align ≡ given (Some State) a None
  allocate-state s = refuses (refused-now (state_test a) from_region (false-not s))

  pub allocate-region : sound_of a ≡ true → (lent ≡ a.head.region → ⊥) → allocate_of a lent size align ≡ given (Some Region) a None
  allocate-region s differs = refuses (past-state s ∙ refused-now (region_test a lent) from_size (false-not (ne_eqb lent a.head.region differs)))

  -- the tests of what is lent, in one
  pub allocate-lent : {r : Refusal} → first_of (lent_tests a lent) ≡ Err r → allocate_of a lent size align ≡ record { answer = Err r; arena = a }
  unfolding allocate_of given
  allocate-lent e = stopped-first a (lent_tests a lent) from_size _ (tests-refuse _ (sym e))

  pub allocate-size : sound_of a ≡ true → lent ≡ a.head.region → most < size → allocate_of a lent size align ≡ given (Some Size) a None
  allocate-size s e l = refuses (past-region s e ∙ refused-now (size_test size) (align_test align ∷ []) (lt-ltb most size l))

  pub allocate-align : sound_of a ≡ true → lent ≡ a.head.region → size ≤ most → allowed_align align ≡ false →
      allocate_of a lent size align ≡ given (Some Align) a None
  allocate-align s e l t =
      refuses (past-region s e ∙ refused-later (size_test size) (align_test align ∷ []) (le-ltb most size l) ∙ refused-now (align_test align) [] (false-not t))

  pub allocate-works : lent ≡ a.head.region → Tested a size align → allocate_of a lent size align ≡ given None a (allocate_in a.head (held_of a) size align)
  unfolding allocate_of
  allocate-works e t =
      ap (λ o. given o a (allocate_in a.head (held_of a) size align))
      (past-region t.sound e
      ∙ none-applies from_size (le-ltb most size t.size_bound, (true-not t.align_allowed, tt)))
