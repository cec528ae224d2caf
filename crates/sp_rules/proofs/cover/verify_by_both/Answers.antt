use Rattle.std.proofs.Common.{subst}
use Rattle.sp_rules.specs.Covering.{IsUnverified}
use Rattle.sp_rules.specs.Views.{first_of, second_of}
use Rattle.sp_rules.specs.declared.config.TheConstants.{FIRST}
use Rattle.sp_rules.proofs.Verifying.{with_more, if_ok_less, if_err_behind}
use Rattle.sp_rules.proofs.cover.verify_by_both.Goals as goal

pub returns-in-Ok-clause-ok : goal.returns-in-Ok-clause-ok
returns-in-Ok-clause-ok c =
    with_more (record { number = FIRST; bytes = c.args.first.now }) (second_of c.args.second.now) c.args.at.doc.now c.args.at.node.0 c.in-Ok.verified c.in-Ok.ensures.ok

pub returns-in-Err-TagDiffers-clause-ok : goal.returns-in-Err-TagDiffers-clause-ok
returns-in-Err-TagDiffers-clause-ok c =
    if_ok_less (record { number = FIRST; bytes = c.args.first.now }) (second_of c.args.second.now) c.args.at.doc.now c.args.at.node.0 c.verify_under-in-Err-TagDiffers.result
    (subst (IsUnverified (first_of c.args.first.now) c.args.at.doc.now.tree c.args.at.node.0) c.in-Err-TagDiffers.field-0-is c.in-Err-TagDiffers.ensures.err)
    c.verify_under-in-Err-TagDiffers.ensures.ok

pub returns-in-Err-TagDiffers-clause-err : goal.returns-in-Err-TagDiffers-clause-err
returns-in-Err-TagDiffers-clause-err c =
    if_err_behind (record { number = FIRST; bytes = c.args.first.now }) (second_of c.args.second.now) c.args.at.doc.now.tree c.args.at.node.0 c.verify_under-in-Err-TagDiffers.result
    (subst (IsUnverified (first_of c.args.first.now) c.args.at.doc.now.tree c.args.at.node.0) c.in-Err-TagDiffers.field-0-is c.in-Err-TagDiffers.ensures.err)
    c.verify_under-in-Err-TagDiffers.ensures.err
