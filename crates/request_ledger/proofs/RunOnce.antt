-- No ledger has two sessions of one request.
use Rattle.std.proofs.Common.{◌≡◌, ℕ, zero, suc, ◌≢◌, false, List, [], ◌∷◌, ◌++◌, bytes_eq, sym, ap, ◌∙◌, arith}
use Rattle.std.specs.List.{list_any}
use Rattle.std.proofs.lemmas.Bool.{false≢true}
use Rattle.ledger_records.specs.declared.sp_record.SpRecord.{SpRecord}
use Rattle.ledger_records.specs.declared.sp_record.SpRecord.TheVariants as kinds
use Rattle.record_ledger.proofs.Words.{each_weaker, text_itself}
use Rattle.request_ledger.specs.Record.{AreRecordsAfter}
use Rattle.request_ledger.specs.Runs.{AreDifferent, requests_opened}
use Rattle.request_ledger.specs.Laws.{NoRequestOpensTwice}
use Rattle.request_ledger.proofs.LawWords.{opens, Each, each_at, opens_rightly, none_push}

pub none_different : AreDifferent []
none_different i j less within = absurd (omega arith)

pub one_more : (text : List ℕ) (texts : List (List ℕ)) → Each (λ t. t ≢ text) texts → AreDifferent texts → AreDifferent (text ∷ texts)
one_more text texts others different zero zero less within = absurd (omega arith)
one_more text texts others different zero (suc j) less within = λ same. each_at (λ t. t ≢ text) texts others j (omega arith) (sym same)
one_more text texts others different (suc i) zero less within = absurd (omega arith)
one_more text texts others different (suc i) (suc j) less within = different i j (omega arith) (omega arith)

-- each session is for another request, and none of these was spent before
record OpenedOnce (before later : List SpRecord) : Type 0 where
  different : AreDifferent (requests_opened later)
  unspent : Each (λ request. list_any (opens request) before ≡ false) (requests_opened later)

unspent_less : (before : List SpRecord) (r : SpRecord) (requests : List (List ℕ))
    → Each (λ request. list_any (opens request) (before ++ r ∷ []) ≡ false) requests
    → Each (λ request. list_any (opens request) before ≡ false) requests
unspent_less before r requests =
    each_weaker (λ request. list_any (opens request) (before ++ r ∷ []) ≡ false) (λ request. list_any (opens request) before ≡ false)
    (λ request none. (none_push (opens request) before r none).0) requests

opened_once : (before later : List SpRecord) → AreRecordsAfter before later → OpenedOnce before later
opened_once before [] are = record { different = none_different; unspent = tt }
opened_once before (kinds.Asked r ∷ later) are =
    let rest = opened_once (before ++ kinds.Asked r ∷ []) later are.1 in
    record { different = rest.different; unspent = unspent_less before (kinds.Asked r) (requests_opened later) rest.unspent }
opened_once before (kinds.Opened r ∷ later) are =
    let rest = opened_once (before ++ kinds.Opened r ∷ []) later are.1 in
    record {
      different = one_more r.request (requests_opened later)
          (each_weaker (λ request. list_any (opens request) (before ++ kinds.Opened r ∷ []) ≡ false) (λ t. t ≢ r.request)
          (λ request none same. false≢true (sym (none_push (opens request) before (kinds.Opened r) none).1
          ∙ ap (bytes_eq r.request) same ∙ text_itself r.request))
          (requests_opened later) rest.unspent)
          rest.different;
      unspent = (
        (opens_rightly before (kinds.Opened r) r.request are.0 (text_itself r.request)).unspent,
        unspent_less before (kinds.Opened r) (requests_opened later) rest.unspent,
      );
    }
opened_once before (kinds.Left r ∷ later) are =
    let rest = opened_once (before ++ kinds.Left r ∷ []) later are.1 in
    record { different = rest.different; unspent = unspent_less before (kinds.Left r) (requests_opened later) rest.unspent }
opened_once before (kinds.Ended r ∷ later) are =
    let rest = opened_once (before ++ kinds.Ended r ∷ []) later are.1 in
    record { different = rest.different; unspent = unspent_less before (kinds.Ended r) (requests_opened later) rest.unspent }
opened_once before (kinds.Confirmed r ∷ later) are =
    let rest = opened_once (before ++ kinds.Confirmed r ∷ []) later are.1 in
    record { different = rest.different; unspent = unspent_less before (kinds.Confirmed r) (requests_opened later) rest.unspent }

pub no_request_opens_twice : NoRequestOpensTwice
no_request_opens_twice records are = (opened_once [] records are).different
