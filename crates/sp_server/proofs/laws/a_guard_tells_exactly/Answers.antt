use Rattle.sp_server.proofs.Guarding.{AnswerLaws, only_a_session, tells_exactly, vouched_alike}
use Rattle.sp_server.proofs.laws.a_guard_tells_exactly.Goals as goal

pub returns : goal.returns
returns c =
    let laws : AnswerLaws = record {
      has = c.an_answer_has_one_status.ensures.has;
      one = c.an_answer_has_one_status.ensures.one;
      read = c.a_vouched_answer_is_read_again.ensures.read;
    } in
    record { tells = tells_exactly laws; only = only_a_session laws; alike = vouched_alike }
