use Rattle.sp_setup.specs.Views.{no_registry}
use Rattle.sp_setup.proofs.Sources.{found_in}
use Rattle.sp_setup.proofs.source.source_of.Goals as goal

pub returns-in-Ok : goal.returns-in-Ok
returns-in-Ok c = found_in _ _ c.args.entity.now _ c.source_in.result c.in-Ok.ensures.ok c.source_in.ensures

pub returns-in-Err-Tree : goal.returns-in-Err-Tree
returns-in-Err-Tree c = no_registry c.in-Err-Tree.field-0 (λ e. let is = c.in-Err-Tree.field-0-is in cc) c.in-Err-Tree.ensures.refused

pub returns-in-Err-WrongShape : goal.returns-in-Err-WrongShape
returns-in-Err-WrongShape c =
    no_registry c.in-Err-WrongShape.field-0 (λ e. let is = c.in-Err-WrongShape.field-0-is in cc) c.in-Err-WrongShape.ensures.refused

pub returns-in-Err-Signature : goal.returns-in-Err-Signature
returns-in-Err-Signature c =
    no_registry c.in-Err-Signature.field-0 (λ e. let is = c.in-Err-Signature.field-0-is in cc) c.in-Err-Signature.ensures.refused
