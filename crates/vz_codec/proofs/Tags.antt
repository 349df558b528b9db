-- Messages that are a tag alone, as their tag tells.
use Rattle.std.proofs.Common.{◌≡◌, ℕ, List, Ok, refl, sym}
use Rattle.std.specs.Int.{w8}
use Rattle.vz_frame.specs.declared.message.Message.TheVariants as message
use Rattle.vz_codec.specs.declared.error.ReadError.{ReadError}
use Rattle.vz_codec.specs.declared.error.ReadError.TheVariants as errors
use Rattle.vz_codec.specs.declared.fault.FileRule.TheVariants as fault
use Rattle.vz_codec.specs.Giving.{Fails}
use Rattle.vz_codec.specs.Reading.{ranged_at, tagged, message_at}

-- the tag 4 is Reclaim
pub reclaim_there : (format tag : ℕ) (front bytes rest : List ℕ) → front ≡ bytes
    → ranged_at fault.Tag w8 1 8 front ≡ Ok (tag, rest) → tag ≡ 4 → message_at format bytes ≡ Ok (message.Reclaim, rest)
unfolding message_at tagged
reclaim_there format tag front bytes rest same h e = rw (sym same, h, e) refl

-- the tag 7 is Await
pub await_there : (format tag : ℕ) (front bytes rest : List ℕ) → front ≡ bytes
    → ranged_at fault.Tag w8 1 8 front ≡ Ok (tag, rest) → tag ≡ 7 → message_at format bytes ≡ Ok (message.Await, rest)
unfolding message_at tagged
await_there format tag front bytes rest same h e = rw (sym same, h, e) refl

-- no tag is there, so no message is
pub no_tag : (format : ℕ) (front bytes : List ℕ) (e : ReadError) → front ≡ bytes
    → Fails e (ranged_at fault.Tag w8 1 8 front) → Fails e (message_at format bytes)
unfolding message_at tagged
no_tag format front bytes errors.Memory same h = tt
no_tag format front bytes (errors.Wrong left rule) same h = rw (sym same, h) refl
