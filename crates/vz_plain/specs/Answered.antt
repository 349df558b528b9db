-- What a quad answers.
use Rattle.std.specs.Prelude.{ℕ, None, List}
use Rattle.vz_frame.specs.declared.frame.RenderPass.{RenderPass}
use Rattle.vz_rules.specs.Hit.{Target}
use Rattle.vz_plain.specs.declared.finder.QuadAnswer.{QuadAnswer}
use Rattle.vz_plain.specs.declared.finder.QuadAnswer.TheVariants.{Nothing, Surface, Inside}
use Rattle.vz_plain.specs.Finding.{Finder, own, left_here}
use Rattle.vz_plain.specs.Remaining.{IsLower}

-- what is hit in a quad that answers so
abbrev pub answer : Finder → QuadAnswer → Target
answer f Nothing = None
answer f Surface = own f
answer f (Inside s) = left_here f.active f.path s

-- a pass that is to answer, if one is, is lower than the pass that the quad is in
abbrev pub IsLowerInside : ℕ → List RenderPass → QuadAnswer → Type 0
IsLowerInside levels earlier Nothing = Unit {0}
IsLowerInside levels earlier Surface = Unit {0}
IsLowerInside levels earlier (Inside s) = IsLower levels earlier s
