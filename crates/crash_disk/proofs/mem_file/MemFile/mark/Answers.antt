use Rattle.std.proofs.Common.{◌≡◌, ap, subst, sym, arith, ◌∙◌}
use Rattle.crash_disk.specs.Disk.{FileState, settled}
use Rattle.crash_disk.specs.Memory.{IsSound, marked}
use Rattle.crash_disk.specs.Soundness.{sound-marking, is_marked}
use Rattle.crash_disk.proofs.mem_file.MemFile.mark.Goals as goal

pub invariant_of-self : goal.invariant_of-self
invariant_of-self c =
    let f : FileState = record { reads = c.self.inside.reads.items; kept = c.self.inside.kept.items; least = c.self.inside.least; greatest = c.self.inside.greatest; written = c.self.inside.written.items } in
    let ranges = c.deref.ensures.value in
    let now : c.mark_pending.new.to.items ≡ marked f = is_marked f c.mark_pending.new.to.items c.mark_pending.ensures.length (rw ranges at c.mark_pending.ensures.marked) in (
      subst (λ bytes. IsSound (record f { reads = bytes })) (sym now) (sound-marking f c.self.invariant.0),
      omega (arith, c.mark_pending.ensures.length, c.self.invariant.1),
      omega (arith, c.mark_pending.ensures.capacity, c.self.invariant.2),
    )

pub returns : goal.returns
returns c =
    let f : FileState = record { reads = c.self.inside.reads.items; kept = c.self.inside.kept.items; least = c.self.inside.least; greatest = c.self.inside.greatest; written = c.self.inside.written.items } in
    let ranges = c.deref.ensures.value in
    let now : c.mark_pending.new.to.items ≡ marked f = is_marked f c.mark_pending.new.to.items c.mark_pending.ensures.length (rw ranges at c.mark_pending.ensures.marked) in
    c.sync.ensures ∙ ap settled now ∙ ap (λ file. settled (marked file)) c.self.view_is
