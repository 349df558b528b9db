use Rattle.std.proofs.Common.{◌≡◌, ◌≤◌, drop}
use Rattle.vz_journal.specs.Reading.{digits_at}
use Rattle.vz_journal.proofs.reader.Reader.digits.Given as goal

abbrev pub invariant-digits : goal.invariant-digits
invariant-digits l = record {
  small : l.number ≤ 4294967295;
  same : digits_at l.number (drop l.place l.bytes) ≡ digits_at l.fn.first l.bytes;
}
