-- `image_write::write` meets its contract: the table is checked first, then measured, and the image is
-- written only where it fits.
-- Assumes nothing.
use Rattle.std.proofs.Common.{◌≡◌, true, ap, ◌∙◌, Ok, rules}
use Rattle.std.proofs.lemmas.Result.{err_from_is_err_and}
use Rattle.image_write.proofs.WriteLaws.{Checked, write-bad_length, write_damaged, plan_small, write_short, fills-table, write-wrote}
use Rattle.image_write.proofs.write.Goals as goal
use Rattle.image_write.proofs.write.Goals.{After-audit, Else-not-branch}

-- the bounds of what is lent and passed, and what the check says
checked : (c : After-audit) → Checked c.args.table.now c.args.epoch c.audit.result
checked c = record { words = λ i. (c.type_inv.table i).fits; small = c.ranges.epoch.fits; check = c.audit.ensures }

pub returns-in_err-audit : goal.returns-in_err-audit
returns-in_err-audit c =
    let p = err_from_is_err_and c.from_residual.result c.from_residual.ensures.1 in
    rw (p.1, p.2) (write-bad_length (checked (goal.at.returns-in_err-audit c).After-audit) _ _ c.in_err-audit.was)

pub returns-then-not-branch : goal.returns-then-not-branch
returns-then-not-branch c =
    write_damaged (checked (goal.at.returns-then-not-branch c).After-audit) _ (c.in_ok-audit.was ∙ ap Ok c.if-not-branch.true)

-- the check says yes
table : (c : Else-not-branch) → c.audit.result ≡ Ok true
table c = c.in_ok-audit.was ∙ ap Ok c.if-not-branch.false

pub plan_of-p-requires : goal.plan_of-p-requires
plan_of-p-requires c = c.audit.ensures.yes (table (goal.at.plan_of-p-requires c).Else-not-branch)

pub length_of-size-requires : goal.length_of-size-requires
length_of-size-requires c =
    let at = goal.at.length_of-size-requires c in
    plan_small (checked at.After-audit) (table at.Else-not-branch) _ c.plan_of-p.ensures

pub returns-then-out-size : goal.returns-then-out-size
returns-then-out-size c =
    let at = goal.at.returns-then-out-size c in
    write_short (checked at.After-audit) (table at.Else-not-branch) _ c.plan_of-p.ensures _ _ c.length_of-size.ensures (search rules)

pub put_image-requires : goal.put_image-requires
put_image-requires c =
    let at = goal.at.put_image-requires c in
    fills-table (checked at.After-audit) (table at.Else-not-branch) _ c.plan_of-p.ensures _ _ c.length_of-size.ensures (search rules)

pub returns : goal.returns
returns c =
    let at = goal.at.returns c in
    write-wrote (checked at.After-audit) (table at.Else-not-branch) _ c.plan_of-p.ensures _ _ c.length_of-size.ensures (search rules) _
    c.put_image.ensures
