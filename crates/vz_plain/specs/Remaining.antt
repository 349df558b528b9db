-- How much is left to be searched: each turn leaves less.
use Rattle.std.specs.Prelude.{ℕ, ◌+◌, ◌*◌, ◌^◌, ◌<◌, List, length, sum_by}
use Rattle.vz_frame.specs.declared.frame.RenderPass.{RenderPass}
use Rattle.vz_plain.specs.Finding.{SearchedPass}

-- more than any frame has passes, and any pass quads
abbrev pub many : ℕ
many = 36893488147419103232

-- how high a pass is, inside which so many surfaces may be entered: one surface more counts for
-- more than all passes before it
abbrev pub height_of : ℕ → List RenderPass → ℕ
height_of levels earlier = levels * many + length earlier

-- what one quad counts for: more than all quads of a pass that is lower
unfoldable pub share_of : ℕ → ℕ
share_of height = 2 ^ (65 * height)

-- what is left of a pass: its quads, each with all that it may lead to, and its end
abbrev pub left_of : SearchedPass → ℕ
left_of s = (length s.quads + 1) * share_of (height_of s.levels s.earlier)

-- what is left of all passes
abbrev pub remaining : List SearchedPass → ℕ
remaining passes = sum_by left_of passes

-- a pass is lower than one inside which so many surfaces may be entered and that may draw these
-- passes, and has no more quads than a list can have
pub record IsLower (levels : ℕ) (earlier : List RenderPass) (s : SearchedPass) : Type 0 where
  pub lower : height_of s.levels s.earlier < height_of levels earlier
  pub few : length s.quads + 1 < many
