use Rattle.std.proofs.Common.{[], ◌∷◌, length-append, arith}
use Rattle.std.proofs.lemmas.Result.{err_from_is_err_and}
use Rattle.vz_codec.specs.Reading.{many_at}
use Rattle.vz_codec.proofs.Loop.{goes_on, ends, is_done}
use Rattle.vz_codec.proofs.field.read_many.Goals as goal

pub returns-in_err-value : goal.returns-in_err-value
returns-in_err-value g c =
    let l = c.loop in
    let read = (g.F.Field.kind c.args.field.now).reading in
    let total = many_at read c.args.count c.args.input.now in
    let e = err_from_is_err_and c.from_residual-in_err-value.result c.from_residual-in_err-value.ensures.1 in
    let fails =
    ends (λ _. read) (λ s _. s) l.values.items c.args.count l.counter tt l.ahead total c.in_err-value.field-0.0
    c.loop-test.true c.in_err-value.ensures l.invariant.0 in
    rw (e.1, e.2) (record { given = fails; all = tt })

pub loop-preserved : goal.loop-preserved
loop-preserved g c =
    let l = c.loop in
    let read = (g.F.Field.kind c.args.field.now).reading in
    let total = many_at read c.args.count c.args.input.now in
    let next =
    goes_on (λ _. read) (λ s _. s) l.values.items c.args.count l.counter tt l.ahead total c.in_ok-value.value
    c.read.new.input c.loop-test.true c.in_ok-value.ensures l.invariant.0 in
    rw c.in_ok-push.ensures.items
    (next, omega (arith, length-append l.values.items (c.in_ok-value.value ∷ []), l.invariant.1))

pub returns : goal.returns
returns g c =
    let l = c.loop in
    let read = (g.F.Field.kind c.args.field.now).reading in
    let total = many_at read c.args.count c.args.input.now in
    let whole =
    is_done (λ _. read) (λ s _. s) l.values.items c.args.count l.counter tt l.ahead total c.loop-test.false
    l.invariant.0 in
    record {
      given = whole;
      all = omega (arith, l.invariant.1, l.auto.counter-end, c.loop-test.false);
    }
