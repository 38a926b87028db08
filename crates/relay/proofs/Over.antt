-- Once it is over nothing changes, a failure is the end of it, and only a read that found the end is taken for that. Assumes nothing.
use mathlib.Core.Bool.{true, false}
use mathlib.Core.Path.{◌≡◌, refl, ap}
use Rattle.relay.specs.declared.Next.{Next}
use Rattle.relay.specs.declared.Next.TheVariants.{Feed, Read, Write}
use Rattle.relay.specs.Passage.{Passage}
use Rattle.relay.specs.Event.{Event, feeds, ends, read_fails, takes, write_fails, Sizes, after_fed, fed_on, read_on, written_on, goes_on, after_event}
use Rattle.relay.specs.Passing.{EndSeen, FailureStops, is_over, OverStays}

pub over-stays : OverStays
unfolding OverStays after_event goes_on is_over
over-stays z p e over = go p.asks over
  where
    go : (next : Next) → is_over next ≡ true → goes_on next z p e ≡ p
    go Feed o = cc
    go Read o = cc
    go Write o = cc
    go next o = refl

pub failure-stops : FailureStops
unfolding FailureStops after_event goes_on read_on written_on
failure-stops z p = (λ e. ap (λ (next : Next). goes_on next z p read_fails) e, λ e. ap (λ (next : Next). goes_on next z p write_fails) e)

seen : (next : Next) (z : Sizes) (p : Passage) (e : Event) → p.ended ≡ false → (goes_on next z p e).ended ≡ true → (next ≡ Read) × (e ≡ ends)
unfolding goes_on fed_on read_on written_on after_fed
seen Read z p ends o s = (refl, refl)
seen Read z p e o s = absurd (cc)
seen Feed z p feeds o s = absurd (cc)
seen Feed z p e o s = absurd (cc)
seen Write z p (takes n) o s = absurd (cc)
seen Write z p e o s = absurd (cc)
seen next z p e o s = absurd (cc)

pub end_seen : EndSeen
unfolding EndSeen after_event
end_seen z p e o s = seen p.asks z p e o s
