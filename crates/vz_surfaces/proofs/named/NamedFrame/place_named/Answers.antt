use Rattle.std.proofs.Common.{◌≡◌, ◌≤◌, Some, length, slice_get, ap, ◌∙◌, arith}
use Rattle.vz_frame.specs.declared.frame.CompositorFrame.{CompositorFrame}
use Rattle.vz_surfaces.specs.Names.{place_named}
use Rattle.vz_surfaces.proofs.Leading.{named_there, pass_low, pass_read, quad_low, quad_read}
use Rattle.vz_surfaces.proofs.named.NamedFrame.place_named.Goals as goal

pub returns-then-is_empty : goal.returns-then-is_empty
returns-then-is_empty c = λ p q at here.
    let passes : (c.as_frame.result.now).passes ≡ c.args.self.now.passes = ap (λ (f : CompositorFrame). f.passes) (c.as_frame.ensures ∙ c.self.view_is) in
    c.search-found.ensures p q (ap (λ l. slice_get l c.args.pass) passes ∙ at) here
    ∙ ap (λ (f : CompositorFrame). place_named f c.args.pass q) (c.as_frame.ensures ∙ c.self.view_is)

pub returns-in_err-places : goal.returns-in_err-places
returns-in_err-places c = λ p q at here.
    let inside = c.self.inside in
    let named = named_there inside.frame inside.places _ _ c.self.invariant c.as_slice.ensures c.is_empty.ensures c.if-is_empty.false in
    let there : slice_get inside.frame.passes c.args.pass ≡ Some p = ap (λ (f : CompositorFrame). slice_get f.passes c.args.pass) c.self.view_is ∙ at in
    let low = pass_low inside.frame inside.places c.args.pass c.args.quad p q named there here in
    let past : length c.as_slice-2.result.now ≤ c.args.pass = c.in_err-places.ensures.lookup.3 in
    let long = ap length c.as_slice-2.ensures in
    absurd (omega (arith, low, past, long))

pub returns-in_err-place : goal.returns-in_err-place
returns-in_err-place c = λ p q at here.
    let inside = c.self.inside in
    let named = named_there inside.frame inside.places _ _ c.self.invariant c.as_slice.ensures c.is_empty.ensures c.if-is_empty.false in
    let there : slice_get inside.frame.passes c.args.pass ≡ Some p = ap (λ (f : CompositorFrame). slice_get f.passes c.args.pass) c.self.view_is ∙ at in
    let found = c.in_ok-places.ensures.lookup.3 in
    let of_pass = pass_read inside.frame inside.places c.args.pass c.args.quad p q named there here c.as_slice-2.result.now
    c.in_ok-places.places.now c.as_slice-2.ensures found.0 (found.1 c.in_ok-places.places.now) in
    let low = quad_low inside.frame inside.places c.args.pass c.args.quad p q named there here c.as_slice-3.result.now
    (c.as_slice-3.ensures ∙ of_pass) in
    let past : length c.as_slice-3.result.now ≤ c.args.quad = c.in_err-place.ensures.lookup.3 in
    absurd (omega (arith, low, past))

pub returns : goal.returns
returns c = λ p q at here.
    let inside = c.self.inside in
    let named = named_there inside.frame inside.places _ _ c.self.invariant c.as_slice.ensures c.is_empty.ensures c.if-is_empty.false in
    let there : slice_get inside.frame.passes c.args.pass ≡ Some p = ap (λ (f : CompositorFrame). slice_get f.passes c.args.pass) c.self.view_is ∙ at in
    let found = c.in_ok-places.ensures.lookup.3 in
    let of_pass = pass_read inside.frame inside.places c.args.pass c.args.quad p q named there here c.as_slice-2.result.now
    c.in_ok-places.places.now c.as_slice-2.ensures found.0 (found.1 c.in_ok-places.places.now) in
    let quad = c.in_ok-place.ensures.lookup.3 in
    quad_read inside.frame inside.places c.args.pass c.args.quad p q named there here c.as_slice-3.result.now c.in_ok-place.place.now
    (c.as_slice-3.ensures ∙ of_pass) quad.0 (quad.1 c.in_ok-place.place.now)
    ∙ ap (λ (f : CompositorFrame). place_named f c.args.pass q) c.self.view_is
