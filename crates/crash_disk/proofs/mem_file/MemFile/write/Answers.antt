use Rattle.std.proofs.Common.{◌≡◌, ◌≤◌, ◌+◌, ◌++◌, [], ◌∷◌, min, max, length, ap, rules, ◌∙◌}
use Rattle.crash_disk.specs.Disk.{FileState, overwritten}
use Rattle.crash_disk.specs.Soundness.{sound-write, length-overwritten}
use Rattle.crash_disk.proofs.mem_file.MemFile.write.Goals as goal

pub invariant_of-self-2 : goal.invariant_of-self-2
invariant_of-self-2 c =
    let f : FileState = record { reads = c.self.inside.reads.items; kept = c.self.inside.kept.items; least = c.self.inside.least; greatest = c.self.inside.greatest; written = c.self.inside.written.items } in
    let within : c.args.at ≤ length f.reads = search rules in
    let reads : c.overwrite.new.to.items ≡ overwritten f.reads c.args.at c.args.bytes.now = search rules in
    let long : length c.overwrite.new.to.items ≡ max (length f.reads) (c.args.at + length c.args.bytes.now) = ap length reads ∙ length-overwritten f.reads c.args.at c.args.bytes.now within in
    let kept : c.reserve-2.new.self.items ≡ f.kept = search rules in
    let written : c.push.new.self.items ≡ f.written ++ record { start = c.args.at; end = c.args.at + length c.args.bytes.now } ∷ [] = search rules in
    let least : c.min-self-inside.result ≡ min f.least (length (overwritten f.reads c.args.at c.args.bytes.now)) = search rules in
    let greatest : c.max-self-inside.result ≡ max f.greatest (length (overwritten f.reads c.args.at c.args.bytes.now)) = search rules in
    (rw (reads, kept, written, least, greatest) (sound-write f c.args.at c.args.bytes.now c.self.invariant.0), search rules, search rules)
