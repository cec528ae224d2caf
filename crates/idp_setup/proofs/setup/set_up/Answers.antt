use Rattle.std.proofs.Common.{ℕ, List, Err, inl, inr, refl, ap, sym, ◌∙◌, subst}
use Rattle.provider_config.specs.IdpConfig.{config_view}
use Rattle.provider_config.specs.declared.config.TheConstants.{MAX_CONFIG_LENGTH}
use Rattle.sp_setup.specs.Faults.{IsFaultOf}
use Rattle.sp_setup.specs.Files.{whole}
use Rattle.sp_setup.proofs.Telling.{if_ok_map, if_err_map, told, wider}
use Rattle.idp_rules.specs.Config.{IsUsable}
use Rattle.idp_setup.specs.Setup.{set_up_by, IsSetUp, IsBadSetUp}
use Rattle.idp_setup.proofs.Completing.{usable}
use Rattle.idp_setup.proofs.setup.set_up.Goals as goal

pub returns-in-Ok-clause-ok : goal.returns-in-Ok-clause-ok
unfolding IsSetUp
returns-in-Ok-clause-ok g c =
    let held = g.F.Files.holds c.args.files.now in
    let file = c.args.file.now in
    let lines = config_view c.in-Ok.lines in
    let text = c.deref.result.now in
    let bytes = rw c.in-Some.is at c.in_ok-bytes.ensures.ok in
    let there = subst (λ (b : List ℕ). (whole MAX_CONFIG_LENGTH file).gives held b) (sym c.deref.ensures.value) bytes in
    let made = rw c.in_ok-bytes.ensures.same at c.set_up_by.ensures.ok in
    if_ok_map ((set_up_by file lines).gives held) (IsSetUp held file) c.set_up_by.result
    (λ config h. (lines, (text, there, c.in-Ok.ensures.value), h)) made

pub returns-in-Ok-clause-usable : goal.returns-in-Ok-clause-usable
returns-in-Ok-clause-usable g c =
    let held = g.F.Files.holds c.read_file.new.files in
    let lines = config_view c.in-Ok.lines in
    let said = c.in-Ok.ensures in
    let (entity, base, listen) = said.texts in
    let law = c.a_spelled_tree_is_writable.ensures in
    if_ok_map ((set_up_by c.args.file.now lines).gives held) IsUsable c.set_up_by.result
    (λ config h. usable held c.args.file.now lines config law h entity base said.skew said.few)
    c.set_up_by.ensures.ok

pub returns-in-Ok-clause-err : goal.returns-in-Ok-clause-err
unfolding IsBadSetUp
returns-in-Ok-clause-err g c =
    let held = g.F.Files.holds c.args.files.now in
    let file = c.args.file.now in
    let lines = config_view c.in-Ok.lines in
    let text = c.deref.result.now in
    let bytes = rw c.in-Some.is at c.in_ok-bytes.ensures.ok in
    let there = subst (λ (b : List ℕ). (whole MAX_CONFIG_LENGTH file).gives held b) (sym c.deref.ensures.value) bytes in
    let before = g.F.Files.faults_of c.args.files.now in
    let middle = g.F.Files.faults_of c.read_file.new.files in
    let now = g.F.Files.faults_of c.set_up_by.new.files in
    let named = rw c.in_ok-bytes.ensures.same at c.set_up_by.ensures.err in
    if_err_map (IsFaultOf ((set_up_by file lines).fails held) middle now) (IsFaultOf (IsBadSetUp held file) before now) c.set_up_by.result
    (λ fault. wider ((set_up_by file lines).fails held) (IsBadSetUp held file) before middle now fault c.in_ok-bytes.ensures.never_falls
    (λ bad line h. inr (lines, (text, there, c.in-Ok.ensures.value), h))) named

pub returns-in-Err-Line-clause-err : goal.returns-in-Err-Line-clause-err
unfolding IsBadSetUp
returns-in-Err-Line-clause-err g c =
    let held = g.F.Files.holds c.args.files.now in
    let file = c.args.file.now in
    let text = c.deref.result.now in
    let bytes = rw c.in-Some.is at c.in_ok-bytes.ensures.ok in
    let there = subst (λ (b : List ℕ). (whole MAX_CONFIG_LENGTH file).gives held b) (sym c.deref.ensures.value) bytes in
    let spelled = rw c.in-Err-Line.field-0-is at c.in-Err-Line.ensures.value in
    told (IsBadSetUp held file) (g.F.Files.faults_of c.args.files.now) (g.F.Files.faults_of c.read_file.new.files) file c.from.result
    c.bad_file-in-Err-Line.result (inl (inr (text, there, (refl, spelled ∙ ap Err (sym c.from.ensures))))) c.bad_file-in-Err-Line.ensures

pub returns-in_default-clause-err : goal.returns-in_default-clause-err
unfolding IsBadSetUp
returns-in_default-clause-err g c =
    let held = g.F.Files.holds c.args.files.now in
    let unread = rw c.in_default.is at c.in_ok-bytes.ensures.ok in
    told (IsBadSetUp held c.args.file.now) (g.F.Files.faults_of c.args.files.now) (g.F.Files.faults_of c.read_file.new.files) c.args.file.now 0
    c.bad_file.result (inl (inl (refl, refl, unread))) c.bad_file.ensures
