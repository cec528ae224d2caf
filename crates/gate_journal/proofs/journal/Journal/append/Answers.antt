use Rattle.std.specs.Prelude.{All, IsSomeAnd}
use Rattle.std.proofs.lemmas.List.Elements.{All-append, All-cons, All-nil}
use Rattle.std.proofs.Common.{true, ◌≡◌, ◌+◌, ◌≤◌, [], ◌∷◌, subst, sym, length, refl, arith, ◌∙◌, ap}
use Rattle.crash_disk.specs.Disk.{Image}
use Rattle.gate_journal.specs.Format.{sizes}
use Rattle.gate_journal.specs.Journal.{OpenedJournal, WithOrWithout, room_of}
use Rattle.gate_journal.proofs.Payloads.{sizes-push}
use Rattle.gate_journal.proofs.Owning.{own_broken, left_now_stands, with_or_without, before_or_after_ok}
use Rattle.gate_journal.proofs.journal.Journal.append.Goals as goal

pub returns-in_err-write_record-clause-own : goal.returns-in_err-write_record-clause-own
returns-in_err-write_record-clause-own g c =
    let told0 = (g.D.Disk.shows c.args.disk.now).told in
    let P : Image → Type 0 = λ image. IsSomeAnd told0 (λ d. WithOrWithout c.args.payload.now d image) in
    own_broken (g.D.Disk.shows c.write_record.new.disk).told (record { kept = record { file = c.self.inside.file; holds = record { version = c.self.inside.version; header = c.self.inside.header; payloads = c.self.inside.records.items } }; spare = c.self.inside.spare; broken = true }) refl (λ image left.
    before_or_after_ok c.args.payload.now c.args.self.now.kept image (with_or_without told0 c.args.self.now c.args.payload.now image c.requires.own c.requires.whole
    (left_now_stands g.D.Disk.shows c.args.disk.now c.write_record.new.disk P g.met.D.Disk.counts_now c.write_record.ensures.moments image left)))

pub invariant_of-self-2 : goal.invariant_of-self-2
invariant_of-self-2 g c =
    let records = c.keep.ensures.records in
    let longer : sizes c.keep.new.records.items ≡ sizes c.self.inside.records.items + (length c.args.payload.now + 5) = ap sizes records ∙ sizes-push c.self.inside.records.items c.args.payload.now in
    let room : room_of (record { file = c.self.inside.file; holds = record { version = c.self.inside.version; header = c.self.inside.header; payloads = c.self.inside.records.items } }) ≡ room_of c.args.self.now.kept = ap (λ (j : OpenedJournal). room_of j.kept) c.self.view_is in
    let version : c.self.inside.version ≡ 2 = ap (λ (j : OpenedJournal). j.kept.holds.version) c.self.view_is ∙ c.requires.version in (
      omega (arith, longer, c.self.invariant.0),
      omega (arith, room, c.requires.room, c.self.invariant.0, c.self.invariant.1),
      c.keep.ensures.slot,
      c.self.invariant.3,
      subst (All (λ p. length p ≤ 1048576)) (sym records) (All-append (λ p. length p ≤ 1048576) c.self.inside.records.items (c.args.payload.now ∷ []) c.self.invariant.4 (All-cons (λ p. length p ≤ 1048576) c.args.payload.now [] c.requires.longest (All-nil (λ p. length p ≤ 1048576)))),
      λ one. absurd (omega (arith, version, one)),
      λ n is. absurd (cc),
      λ n is. absurd (cc),
      λ n is. absurd (cc),
    )
