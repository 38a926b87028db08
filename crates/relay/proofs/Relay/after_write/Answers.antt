-- `relay::Relay::after_write` meets its contract, by what the write answered. Assumes nothing.
use Rattle.std.proofs.Common.{arith, ◌≡◌}
use Rattle.relay.specs.declared.Failure.TheVariants.{Interrupted, Other}
use Rattle.relay.specs.Event.{write_answer}
use Rattle.relay.proofs.Steps.{write-failed-goes, write-interrupted-goes, write-took-goes}
use Rattle.relay.proofs.Relay.after_write.Goals as goal

pub returns-in-Ok-eq0 : goal.returns-in-Ok-eq0
unfolding write_answer
returns-in-Ok-eq0 c =
    let none : c.in-Ok-eq0.field-0 ≡ 0 = omega (arith, c.in-Ok-eq0.field-0-test) in
    rw (c.in-Ok-eq0.is, none, c.ask.ensures) (write-failed-goes c.args.self c.args.input.now c.args.output.now c.requires.0 c.requires.1)

pub returns-in-Ok : goal.returns-in-Ok
returns-in-Ok c =
    let some = rw c.in-Ok.is at c.in-Ok.moved-test.1 in
    rw (c.in-Ok.is, c.give_out.ensures) (write-took-goes c.args.self c.args.input.now c.args.output.now c.requires.0 c.requires.1 _ some)

pub returns-in-Err-Interrupted : goal.returns-in-Err-Interrupted
unfolding write_answer
returns-in-Err-Interrupted c =
    let why : c.in-Err-Interrupted.field-0 ≡ Interrupted = cc in
    rw (c.in-Err-Interrupted.is, why) (write-interrupted-goes c.args.self c.args.input.now c.args.output.now c.requires.0 c.requires.1)

pub returns-in-Err-Other : goal.returns-in-Err-Other
unfolding write_answer
returns-in-Err-Other c =
    let why : c.in-Err-Other.field-0 ≡ Other = cc in
    rw (c.in-Err-Other.is, why, c.ask-in-Err-Other.ensures) (write-failed-goes c.args.self c.args.input.now c.args.output.now c.requires.0 c.requires.1)
