use Rattle.std.specs.Prelude.{IfSome, List, ℕ, Option}
use Rattle.std.proofs.Common.{◌≡◌, sym, ◌∙◌, subst, Some, arith}
use Rattle.record_ledger.proofs.Records.{records_of-length}
use Rattle.record_ledger.proofs.LoadLaws.{short_anew, one_more, one_unread, one_refused}
use Rattle.record_ledger.proofs.opening.Loaded.load_one.Goals as goal

spelled : {R : Type 0} (bytes : R → List ℕ) (payload : List ℕ) (o : Option R) (r : R) → o ≡ Some r → IfSome o (λ r. payload ≡ bytes r) → payload ≡ bytes r
spelled {R} bytes payload o r is found = subst (λ (o : Option R). IfSome o (λ r. payload ≡ bytes r)) is found

pub returns-in_default : goal.returns-in_default
returns-in_default g c payloads loaded = one_unread g.S.Standing.rules g.S.Standing.row_rules.stands c.args.version payloads c.args.payload.now c.args.self.now.standing c.args.self.now.payloads.items loaded (sym c.in_ok-entry.ensures.is ∙ c.in_default.is)

pub returns-then-not-is_next : goal.returns-then-not-is_next
returns-then-not-is_next g c payloads loaded =
    one_refused g.S.Standing.rules g.S.Standing.row_rules.stands c.args.version payloads c.args.payload.now c.in-Some.entry c.args.self.now.standing c.args.self.now.payloads.items loaded (sym c.in_ok-entry.ensures.is ∙ c.in-Some.is)
    (λ records stand. sym c.if-not-is_next.true ∙ c.is_next.ensures records stand)

pub keep_anew-requires : goal.keep_anew-requires
keep_anew-requires g c =
    short_anew g.S.Standing.rules c.laws_hold.ensures.bytes c.args.version c.args.payload.now c.in-Some.entry
    (spelled (g.S.Standing.rules.bytes c.args.version) c.args.payload.now c.in_ok-entry.field-0 c.in-Some.entry c.in-Some.is c.in_ok-entry.ensures.spelled) c.requires.short

pub put-requires : goal.put-requires
put-requires g c =
    let l = c.requires.few.loaded in
    record {
      records = l.records;
      stand = c.reserve.ensures.same l.records (subst (λ s. g.S.Standing.row_rules.stands s l.records) (sym c.keep_anew.ensures.standing) l.stand);
      few = omega (arith, c.requires.few.few, records_of-length g.S.Standing.rules c.args.version l.records c.requires.few.payloads l.are);
      is = sym (c.is_next.ensures l.records l.stand) ∙ c.if-not-is_next.false;
      room = c.in_ok-reserve.ensures.ok;
    }

pub returns : goal.returns
returns g c payloads loaded =
    one_more g.S.Standing.rules g.S.Standing.row_rules.stands c.args.version payloads c.args.payload.now c.in-Some.entry c.args.self.now.standing c.put.new.self c.args.self.now.payloads.items c.keep_anew.new.self.payloads.items loaded
    (sym c.in_ok-entry.ensures.is ∙ c.in-Some.is)
    (spelled (g.S.Standing.rules.bytes c.args.version) c.args.payload.now c.in_ok-entry.field-0 c.in-Some.entry c.in-Some.is c.in_ok-entry.ensures.spelled)
    (λ records stand. sym c.if-not-is_next.false ∙ c.is_next.ensures records stand)
    (λ records stand. c.put.ensures.stands records (c.reserve.ensures.same records (subst (λ s. g.S.Standing.row_rules.stands s records) (sym c.keep_anew.ensures.standing) stand)))
    c.in_ok-keep_anew.ensures.anew c.in_ok-keep_anew.ensures.found
