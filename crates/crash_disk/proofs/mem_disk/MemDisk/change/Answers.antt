use Rattle.std.proofs.Common.{◌≡◌, ◌++◌, [], ◌∷◌, List, rules, sym, subst}
use Rattle.std.specs.Prelude.{map}
use Rattle.crash_disk.specs.declared.change.Taken.{Taken}
use Rattle.crash_disk.specs.Disk.{DiskState, files, settled_image}
use Rattle.crash_disk.specs.Memory.{replay, after_taken}
use Rattle.crash_disk.proofs.Calls.{one_more_taken}
use Rattle.crash_disk.proofs.mem_disk.MemDisk.change.Goals as goal

pub invariant_of-self-then-stops-2 : goal.invariant_of-self-then-stops-2
invariant_of-self-then-stops-2 c =
    let first : DiskState = settled_image (record { zero = c.self.inside.start_zero; one = c.self.inside.start_one }) in
    let taken : Taken = record { change = c.args.change; stop = c.if-stops.stop } in
    let longer : c.push.new.self.items ≡ c.self.inside.log.items ++ taken ∷ [] = search rules in
    let now : record { zero = c.take.new.zero; one = c.take.new.one; calls = c.args.change ∷ [] } ≡ after_taken c.if-stops.stop c.args.change (files c.self.inside.zero c.self.inside.one) = search rules in
    subst (λ (log : List Taken). record { zero = c.take.new.zero; one = c.take.new.one; calls = map (λ t. t.change) log } ≡ replay first log) (sym longer)
    (one_more_taken first c.self.inside.log.items taken c.self.inside.zero c.self.inside.one c.take.new.zero c.take.new.one c.self.invariant now)

pub invariant_of-self-else-stops-2 : goal.invariant_of-self-else-stops-2
invariant_of-self-else-stops-2 c =
    let first : DiskState = settled_image (record { zero = c.self.inside.start_zero; one = c.self.inside.start_one }) in
    let taken : Taken = record { change = c.args.change; stop = c.if-stops.stop } in
    let longer : c.push.new.self.items ≡ c.self.inside.log.items ++ taken ∷ [] = search rules in
    let now : record { zero = c.take.new.zero; one = c.take.new.one; calls = c.args.change ∷ [] } ≡ after_taken c.if-stops.stop c.args.change (files c.self.inside.zero c.self.inside.one) = search rules in
    subst (λ (log : List Taken). record { zero = c.take.new.zero; one = c.take.new.one; calls = map (λ t. t.change) log } ≡ replay first log) (sym longer)
    (one_more_taken first c.self.inside.log.items taken c.self.inside.zero c.self.inside.one c.take.new.zero c.take.new.one c.self.invariant now)
