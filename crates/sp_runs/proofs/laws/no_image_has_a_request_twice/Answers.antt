use Rattle.sp_runs.proofs.laws.no_image_has_a_request_twice.Goals as goal

pub returns : goal.returns
returns c = λ image held is. c.no_request_opens_twice.ensures held.records (c.images_hold_records.ensures image held is)
