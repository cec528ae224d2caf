use Rattle.std.proofs.Common.{sym, ◌∙◌, arith}
use Rattle.record_ledger.proofs.Records.{records_of-length}
use Rattle.record_lines.proofs.JudgedPayloads.{one_read, one_unread, one_refused}
use Rattle.record_lines.proofs.judging.read_one.Goals as goal

pub returns-in_default : goal.returns-in_default
returns-in_default g c payloads read = λ later. one_unread g.S.Standing.rules g.S.Standing.row_rules.stands c.args.version payloads later c.args.payload.now c.args.standing.now read (sym c.in_ok-entry.ensures.is ∙ c.in_default.is)

pub returns-then-not-is_next : goal.returns-then-not-is_next
returns-then-not-is_next g c payloads read =
    λ later. one_refused g.S.Standing.rules g.S.Standing.row_rules.stands c.args.version payloads later c.args.payload.now c.in-Some.entry c.args.standing.now read (sym c.in_ok-entry.ensures.is ∙ c.in-Some.is)
    (λ records stand. sym c.if-not-is_next.true ∙ c.is_next.ensures records stand)

pub put-requires : goal.put-requires
put-requires g c =
    let (payloads, read, few) = c.requires in
    record {
      records = read.records;
      stand = c.reserve.ensures.same read.records read.stand;
      few = omega (arith, few, records_of-length g.S.Standing.rules c.args.version read.records payloads read.are);
      is = sym (c.is_next.ensures read.records read.stand) ∙ c.if-not-is_next.false;
      room = c.in_ok-reserve.ensures.ok;
    }

pub returns : goal.returns
returns g c payloads read =
    one_read g.S.Standing.rules g.S.Standing.row_rules.stands c.args.version payloads c.args.payload.now c.in-Some.entry c.args.standing.now c.put.new.self read (sym c.in_ok-entry.ensures.is ∙ c.in-Some.is)
    (λ records stand. sym c.if-not-is_next.false ∙ c.is_next.ensures records stand)
    (λ records stand. c.put.ensures.stands records (c.reserve.ensures.same records stand))
