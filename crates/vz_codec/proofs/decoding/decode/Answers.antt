use Rattle.std.proofs.Common.{◌-◌, length, Ok, Err, refl, arith}
use Rattle.vz_codec.specs.declared.fault.DecodeError.TheVariants.{Refused}
use Rattle.vz_codec.proofs.Found.{is_found, wrong_is, finds, fault_placed}
use Rattle.vz_codec.proofs.decoding.decode.Goals as goal

pub overflow_sub-result : goal.overflow_sub-result
overflow_sub-result c =
    let given = rw c.in-Err-Wrong.field-0-is at c.in-Err-Wrong.ensures in
    let place =
    fault_placed c.args.bytes.now (record { left = c.in-Err-Wrong.left; rule = c.in-Err-Wrong.rule }) given in
    omega (arith, place.within)

pub returns-in-Ok-clause-found : goal.returns-in-Ok-clause-found
returns-in-Ok-clause-found c =
    is_found c.args.bytes.now c.in-Ok.file (λ i. omega (arith, c.type_inv.bytes i)) c.in-Ok.ensures

pub returns-in-Ok-clause-only : goal.returns-in-Ok-clause-only
returns-in-Ok-clause-only c = finds c.args.bytes.now (Ok c.in-Ok.file) c.in-Ok.ensures

pub returns-in-Err-Wrong-clause-exact : goal.returns-in-Err-Wrong-clause-exact
returns-in-Err-Wrong-clause-exact c =
    let given = rw c.in-Err-Wrong.field-0-is at c.in-Err-Wrong.ensures in
    let place = length c.args.bytes.now - c.in-Err-Wrong.left in
    wrong_is c.args.bytes.now place c.in-Err-Wrong.left c.in-Err-Wrong.rule given refl

pub returns-in-Err-Wrong-clause-only : goal.returns-in-Err-Wrong-clause-only
returns-in-Err-Wrong-clause-only c =
    let given = rw c.in-Err-Wrong.field-0-is at c.in-Err-Wrong.ensures in
    let place = length c.args.bytes.now - c.in-Err-Wrong.left in
    let refused = wrong_is c.args.bytes.now place c.in-Err-Wrong.left c.in-Err-Wrong.rule given refl in
    finds c.args.bytes.now (Err (Refused place c.in-Err-Wrong.rule)) refused
