-- What the answer of `viz_decode` says of the bytes.
use Rattle.std.proofs.Common.{◌≡◌, ◌≤◌, ◌==◌, ℕ, ◌∙◌, None, Some, Result, Ok, Err, List, refl, sym, ap, arith, if◌then◌else◌}
use Rattle.vz_frame.specs.declared.message.ClientFile.{ClientFile}
use Rattle.vz_codec.specs.{declared.fault.FileRule.FileRule, declared.fault.DecodeError.DecodeError, Grammar.placed, Grammar.wrong, Grammar.Decodes}
use Rattle.vz_codec.specs.declared.fault.FileRule.TheVariants.{Magic, Version, Short, Tag, Limit, Colour, Trailing}
use Rattle.vz_codec.specs.declared.fault.DecodeError.TheVariants.{Refused, Memory}
use Rattle.viz_c.specs.{Numbers.rule_number, Numbers.IsDecodingTold, Answers.DONE, Answers.MEMORY}

-- a rule by its number
rule_of : ℕ → FileRule
rule_of n =
    if n == 1 then Magic
    else (if n == 2 then Version
    else (if n == 3 then Short
    else (if n == 4 then Tag
    else (if n == 5 then Limit
    else (if n == 6 then Colour
    else Trailing)))))

of_number : (rule : FileRule) → rule_of (rule_number rule) ≡ rule
unfolding rule_of
of_number Magic = refl
of_number Version = refl
of_number Short = refl
of_number Tag = refl
of_number Limit = refl
of_number Colour = refl
of_number Trailing = refl

-- rules with one number are one
one_rule : (a b : FileRule) → rule_number a ≡ rule_number b → a ≡ b
one_rule a b e = sym (of_number a) ∙ (ap rule_of e ∙ of_number b)

-- the number of a rule is neither 0 nor 8
between : (rule : FileRule) → (1 ≤ rule_number rule) × (rule_number rule ≤ 7)
between Magic = (omega arith, omega arith)
between Version = (omega arith, omega arith)
between Short = (omega arith, omega arith)
between Tag = (omega arith, omega arith)
between Limit = (omega arith, omega arith)
between Colour = (omega arith, omega arith)
between Trailing = (omega arith, omega arith)

-- 0 is the answer for bytes with which nothing is wrong
pub accepted :
    (bytes : List ℕ) (answer : Result ClientFile DecodeError) (code at : ℕ)
    → Decodes bytes answer → IsDecodingTold answer code at → code ≡ DONE → wrong bytes ≡ None
unfolding wrong
accepted bytes (Ok file) code at d t e = ap (placed bytes) d
accepted bytes (Err (Refused place rule)) code at d t e = absurd (omega (arith, (between rule).0, t.0, e))
accepted bytes (Err Memory) code at d t e = absurd (omega (arith, t, e))

-- the number of a rule is the answer for bytes that break it there
pub refused :
    (bytes : List ℕ) (answer : Result ClientFile DecodeError) (code at : ℕ) (rule : FileRule)
    → Decodes bytes answer → IsDecodingTold answer code at → code ≡ rule_number rule → wrong bytes ≡ Some (record { at = at; rule = rule })
refused bytes (Ok file) code at rule d t e = absurd (omega (arith, (between rule).0, t, e))
refused bytes (Err (Refused place other)) code at rule d t e =
    d ∙ (ap (λ (n : ℕ). Some (record { at = n; rule = other })) (sym t.1)
    ∙ ap (λ (r : FileRule). Some (record { at = at; rule = r })) (one_rule other rule (sym t.0 ∙ e)))
refused bytes (Err Memory) code at rule d t e = absurd (omega (arith, (between rule).1, t, e))

pub in_range : (answer : Result ClientFile DecodeError) (code at : ℕ) → IsDecodingTold answer code at → code ≤ MEMORY
in_range (Ok file) code at t = omega (arith, t)
in_range (Err (Refused place rule)) code at t = omega (arith, (between rule).1, t.0)
in_range (Err Memory) code at t = omega (arith, t)
