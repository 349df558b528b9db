use Rattle.std.proofs.Common.{◌+ℤ◌, pos, subst}
use Rattle.vz_paint.proofs.Spanned.{IsBefore, exact, left_given, right_given}
use Rattle.vz_paint.proofs.Patches.{top_given, bottom_given, rows_above, rows_under, row_top, row_bottom}
use Rattle.vz_paint.proofs.rows.patch_of.Goals as goal

pub returns-clause-above : goal.returns-clause-above
returns-clause-above c = λ r i low.
    let a = c.args in
    let t = c.rows_before-top.ensures in
    let proper = c.is_empty.ensures.proper in
    rows_above a.area.now a.start a.count c.rows_before-top.result r i
    (subst (λ y. IsBefore y a.start.y a.count c.rows_before-top.result) (top_given a.area.now c.y.result proper c.y.ensures) (record { most = t.most; left = t.left; right = t.right })) low

pub returns-clause-under : goal.returns-clause-under
returns-clause-under c = λ r i low more.
    let a = c.args in
    let b = c.rows_before-bottom.ensures in
    let proper = c.is_empty.ensures.proper in
    rows_under a.area.now a.start a.count c.rows_before-bottom.result r i
    (subst (λ y. IsBefore y a.start.y a.count c.rows_before-bottom.result) (bottom_given a.area.now c.bottom.result proper c.bottom.ensures.value) (record { most = b.most; left = b.left; right = b.right })) low more

pub returns-clause-exact : goal.returns-clause-exact
returns-clause-exact c = λ r i in_all more low near.
    let a = c.args in
    let area = a.area.now in
    let f = c.columns_before-from.ensures in
    let t = c.columns_before-to.ensures in
    let u = c.rows_before-top.ensures in
    let b = c.rows_before-bottom.ensures in
    let proper = c.is_empty.ensures.proper in
    exact area (record { x = a.start.x; y = a.start.y +ℤ pos r }) a.wide c.columns_before-from.result c.columns_before-to.result
    (row_top area a.start a.count c.rows_before-top.result r
    (subst (λ y. IsBefore y a.start.y a.count c.rows_before-top.result) (top_given area c.y.result proper c.y.ensures) (record { most = u.most; left = u.left; right = u.right })) in_all more)
    (row_bottom area a.start a.count c.rows_before-bottom.result r
    (subst (λ y. IsBefore y a.start.y a.count c.rows_before-bottom.result) (bottom_given area c.bottom.result proper c.bottom.ensures.value) (record { most = b.most; left = b.left; right = b.right })) low)
    (subst (λ x. IsBefore x a.start.x a.wide c.columns_before-from.result) (left_given area c.x.result proper c.x.ensures) (record { most = f.most; left = f.left; right = f.right }))
    (subst (λ x. IsBefore x a.start.x a.wide c.columns_before-to.result) (right_given area c.right.result proper c.right.ensures.value) (record { most = t.most; left = t.left; right = t.right })) i near
