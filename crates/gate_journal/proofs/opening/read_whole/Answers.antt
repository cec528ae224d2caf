use Rattle.std.specs.Prelude.{IfSome, Option, None, Some}
use Rattle.std.proofs.Common.{◌≡◌, ℕ, min, List, ◌++◌, length, take, drop, sym, ◌∙◌, ap, subst, arith, rules}
use Rattle.std.proofs.lemmas.List.{take_at, take_min}
use Rattle.crash_disk.specs.declared.file_no.FileNo.{FileNo}
use Rattle.crash_disk.specs.Disk.{Image, DiskState, reads_of, read_from}
use Rattle.crash_disk.specs.Moments.{Leaves, LeavesOnly}
use Rattle.crash_disk.specs.Steps.{started, goes_on}
use Rattle.gate_journal.proofs.opening.read_whole.Goals as goal
use Rattle.gate_journal.proofs.opening.read_whole.Goals.{After-read_at}
use Rattle.gate_journal.proofs.opening.read_whole.Given.{Over}

whole : (told then : Option DiskState) (file : FileNo) (n size count : ℕ) (buffer bytes : List ℕ) → then ≡ told → IfSome told (λ d. n ≡ length (reads_of d file)) → size ≡ min n 134217729 → length buffer ≡ size
    → IfSome then (λ d. count ≡ length (read_from (reads_of d file) 0 (length buffer))) → IfSome then (λ d. bytes ≡ read_from (reads_of d file) 0 (length buffer) ++ drop count buffer) → IfSome told (λ d. take count bytes ≡ take 134217729 (reads_of d file))
whole None then file n size count buffer bytes same long sized buffered counted read = tt
whole (Some d) then file n size count buffer bytes same long sized buffered counted read =
    let R = reads_of d file in
    let counted_d : count ≡ length (read_from R 0 (length buffer)) = subst (λ (o : Option DiskState). IfSome o (λ d. count ≡ length (read_from (reads_of d file) 0 (length buffer)))) same counted in
    let read_d : bytes ≡ read_from R 0 (length buffer) ++ drop count buffer = subst (λ (o : Option DiskState). IfSome o (λ d. bytes ≡ read_from (reads_of d file) 0 (length buffer) ++ drop count buffer)) same read in
    let width : length buffer ≡ min 134217729 (length R) = omega arith in
    ap (take count) read_d ∙ take_at (read_from R 0 (length buffer)) (drop count buffer) count (sym counted_d) ∙ ap (λ (k : ℕ). take k R) width ∙ take_min 134217729 R

pub returns-clause-bytes : goal.returns-clause-bytes
returns-clause-bytes g c =
    let shows = g.D.Disk.shows in
    let buffer = c.deref_mut.result.now in
    let into = c.read_at.new.into in
    let count = c.in_ok-count.count in
    let file = c.args.file in
    let buffered : length buffer ≡ c.min-size.result = search rules in
    let kept : length into ≡ length buffer = search rules in
    let long : c.in_ok-bytes.bytes.len ≡ length into = search rules in
    let sized : c.min-size.result ≡ min c.in_ok-length.field-0 134217729 = search rules in
    let is : c.truncate.new.self.items ≡ take count into = c.truncate.ensures.items ∙ ap (take count) (take_at into (drop (length into) c.in_ok-bytes.bytes.items) c.in_ok-bytes.bytes.len (sym long)) in
    let all = whole (shows c.args.disk.now).told (shows c.length.new.self).told file c.in_ok-length.field-0 c.min-size.result count buffer into c.length.ensures.same c.in_ok-length.ensures.length sized buffered c.in_ok-count.ensures.count c.in_ok-count.ensures.bytes in
    subst (λ (b : List ℕ). IfSome (shows c.args.disk.now).told (λ d. b ≡ take 134217729 (reads_of d file))) (sym is) all

-- two calls that only read
only_read : (g : Over) (c : After-read_at g) → LeavesOnly g.D.Disk.shows c.args.disk.now c.read_at.new.self (Leaves (g.D.Disk.shows c.args.disk.now).told)
only_read g c =
    let d0 = c.args.disk.now in
    let d1 = c.length.new.self in
    let P : Image → Type 0 = Leaves (g.D.Disk.shows d0).told in
    let one = goes_on g.D.Disk.shows d0 d0 d1 P (started g.D.Disk.shows d0 P (g.met.D.Disk.only_now d0)) c.length.ensures.time
    (λ image left. subst (λ (o : Option DiskState). Leaves o image) c.length.ensures.same left) in
    goes_on g.D.Disk.shows d0 d1 c.read_at.new.self P one c.read_at.ensures.time
    (λ image left. subst (λ (o : Option DiskState). Leaves o image) (c.read_at.ensures.same ∙ c.length.ensures.same) left)

pub returns-in_err-count-clause-moments : goal.returns-in_err-count-clause-moments
returns-in_err-count-clause-moments g c = only_read g (goal.at.returns-in_err-count-clause-moments g c).After-read_at

pub returns-clause-moments : goal.returns-clause-moments
returns-clause-moments g c = only_read g (goal.at.returns-clause-moments g c).After-read_at
