use Rattle.std.proofs.Common.{◌<◌, ℕ, List, length, Err, inl, inr, refl, ap, sym, ◌∙◌, subst, arith}
use Rattle.provider_config.specs.Config.{config_view}
use Rattle.provider_config.specs.declared.config.TheConstants.{MAX_CONFIG_LENGTH}
use Rattle.request_rows.specs.declared.rows.TheConstants.{ROW_LIMIT}
use Rattle.sp_setup.specs.declared.setup.SetUp.{SetUp}
use Rattle.sp_setup.specs.Faults.{IsFaultOf}
use Rattle.sp_setup.specs.Files.{whole, in_order}
use Rattle.sp_setup.specs.Setup.{nothing, load, IsBadSetUp}
use Rattle.sp_setup.specs.Views.{IsSetUpBy, IsSetUpFrom, IsWithinBounds, HasTexts}
use Rattle.sp_setup.proofs.Completing.{bounds}
use Rattle.sp_setup.proofs.SettingUp.{from_lines}
use Rattle.sp_setup.proofs.Texts.{texts}
use Rattle.sp_setup.proofs.Telling.{if_ok_map, if_err_map, told, wider}
use Rattle.sp_setup.proofs.setup.set_up.Goals as goal

pub returns-in-Ok-clause-ok : goal.returns-in-Ok-clause-ok
returns-in-Ok-clause-ok g c =
    let held = g.F.Files.holds c.args.files.now in
    let file = c.args.file.now in
    let lines = config_view c.in-Ok.lines in
    let text = c.deref.result.now in
    let bytes = rw c.in-Some.is at c.in_ok-bytes.ensures.ok in
    let there = subst (λ (b : List ℕ). (whole MAX_CONFIG_LENGTH file).gives held b) (sym c.deref.ensures.value) bytes in
    let made = rw c.in_ok-bytes.ensures.same at c.set_up_by.ensures.ok in
    if_ok_map (IsSetUpBy held lines) (IsSetUpFrom held c.args.purpose file) c.set_up_by.result
    (λ setup h. from_lines held c.args.purpose file text lines setup there c.in-Ok.ensures.value h) made

pub returns-in-Ok-clause-bounds : goal.returns-in-Ok-clause-bounds
returns-in-Ok-clause-bounds g c =
    let held = g.F.Files.holds c.read_file.new.files in
    let lines = config_view c.in-Ok.lines in
    let text = c.deref.result.now in
    let there = rw c.in-Some.is at c.in_ok-bytes.ensures.ok in
    let few : length text < ROW_LIMIT = omega (arith, there.0, ap length c.deref.ensures.value) in
    let asked : length lines.asked < ROW_LIMIT = omega (arith, few, c.rows_are_fewer_than_bytes.ensures.asked c.args.purpose text lines c.in-Ok.ensures.value) in
    let opened : length lines.opened < ROW_LIMIT = omega (arith, few, c.rows_are_fewer_than_bytes.ensures.opened c.args.purpose text lines c.in-Ok.ensures.value) in
    if_ok_map (IsSetUpBy held lines) IsWithinBounds c.set_up_by.result
    (λ setup h. bounds held lines setup h c.in-Ok.ensures.skew c.in-Ok.ensures.times asked opened) c.set_up_by.ensures.ok

pub returns-in-Ok-clause-err : goal.returns-in-Ok-clause-err
unfolding IsBadSetUp
returns-in-Ok-clause-err g c =
    let held = g.F.Files.holds c.args.files.now in
    let file = c.args.file.now in
    let lines = config_view c.in-Ok.lines in
    let text = c.deref.result.now in
    let bytes = rw c.in-Some.is at c.in_ok-bytes.ensures.ok in
    let there = subst (λ (b : List ℕ). (whole MAX_CONFIG_LENGTH file).gives held b) (sym c.deref.ensures.value) bytes in
    let before = g.F.Files.faults_of c.args.files.now in
    let middle = g.F.Files.faults_of c.read_file.new.files in
    let now = g.F.Files.faults_of c.set_up_by.new.files in
    let first = rw c.in_ok-bytes.ensures.same at c.set_up_by.ensures.err in
    if_err_map (IsFaultOf ((in_order load lines.files nothing).fails held) middle now) (IsFaultOf (IsBadSetUp held c.args.purpose file) before now)
    c.set_up_by.result
    (λ fault. wider ((in_order load lines.files nothing).fails held) (IsBadSetUp held c.args.purpose file) before middle now fault
    c.in_ok-bytes.ensures.never_falls (λ bad line h. inr (lines, (text, there, c.in-Ok.ensures.value), inl h))) first

pub returns-in-Err-Line-clause-err : goal.returns-in-Err-Line-clause-err
unfolding IsBadSetUp
returns-in-Err-Line-clause-err g c =
    let held = g.F.Files.holds c.args.files.now in
    let file = c.args.file.now in
    let text = c.deref.result.now in
    let bytes = rw c.in-Some.is at c.in_ok-bytes.ensures.ok in
    let there = subst (λ (b : List ℕ). (whole MAX_CONFIG_LENGTH file).gives held b) (sym c.deref.ensures.value) bytes in
    let spelled = rw c.in-Err-Line.field-0-is at c.in-Err-Line.ensures.value in
    told (IsBadSetUp held c.args.purpose file) (g.F.Files.faults_of c.args.files.now) (g.F.Files.faults_of c.read_file.new.files) file c.from.result
    c.bad_file-in-Err-Line.result (inl (inr (text, there, (refl, spelled ∙ ap Err (sym c.from.ensures))))) c.bad_file-in-Err-Line.ensures

pub returns-in-Ok-clause-texts : goal.returns-in-Ok-clause-texts
returns-in-Ok-clause-texts g c =
    let held = g.F.Files.holds c.read_file.new.files in
    let lines = config_view c.in-Ok.lines in
    let (entity, base, listen) = c.in-Ok.ensures.texts in
    if_ok_map (IsSetUpBy held lines) (λ (setup : SetUp). HasTexts setup.config) c.set_up_by.result
    (λ setup h. texts held lines setup c.a_spelled_tree_is_writable.ensures c.a_peer_is_read_from_a_listed_descriptor.ensures h entity base listen) c.set_up_by.ensures.ok

pub returns-in_default-clause-err : goal.returns-in_default-clause-err
unfolding IsBadSetUp
returns-in_default-clause-err g c =
    let held = g.F.Files.holds c.args.files.now in
    let unread = rw c.in_default.is at c.in_ok-bytes.ensures.ok in
    told (IsBadSetUp held c.args.purpose c.args.file.now) (g.F.Files.faults_of c.args.files.now) (g.F.Files.faults_of c.read_file.new.files) c.args.file.now 0
    c.bad_file.result (inl (inl (refl, refl, unread))) c.bad_file.ensures
