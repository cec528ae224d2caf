-- When a session is opened.
use Rattle.std.specs.Prelude.{Option, Some}
use Rattle.std.proofs.Common.{◌≡◌, ◌⊎◌, inl, inr, ℕ, List, sym, subst, refl, ap, ◌∙◌}
use Rattle.crash_disk.specs.Counts.{Rose}
use Rattle.http_wire.specs.declared.answer.Answer.{Answer}
use Rattle.http_wire.specs.declared.answer.Answer.TheVariants.{Fixed}
use Rattle.provider_node.specs.declared.codes.TheConstants.{NO_MEMORY}
use Rattle.http_wire.specs.Requests.{Request}
use Rattle.ledger_records.specs.declared.sp_record.SpRecord.{SpRecord}
use Rattle.ledger_records.specs.declared.sp_record.SpRecord.TheVariants as kinds
use Rattle.verdict_codes.specs.declared.codes.Verdict.{Verdict}
use Rattle.request_rows.specs.Rows.{RowsView}
use Rattle.request_rows.specs.declared.row.AskedRow.{AskedRow}
use Rattle.request_ledger.specs.Laws.{AnswerAlike, CompactionsChangeNoAnswer}
use Rattle.request_ledger.specs.Ledger.{Held}
use Rattle.request_ledger.specs.Record.{request_rules}
use Rattle.request_ledger.specs.RowsOf.{rows_of}
use Rattle.sp_rules.specs.declared.config.SpConfig.{SpConfig}
use Rattle.sp_rules.specs.Opening.{Brought, Opens}
use Rattle.sp_rules.specs.Verdict.{IsRefused}
use Rattle.provider_node.proofs.Wanted.{IsAdded, IsBehind, alike_behind, comes_of_wanted}
use Rattle.sp_server.specs.Step as steps
use Rattle.sp_server.specs.Step.{Setup, Answers, opened_record, rows_seen}
use Rattle.sp_server.specs.Sessions.{OpensOver, GivesSession, IsOpened, OnlyWhereAFormOpens, WhereverAFormOpens}
use Rattle.sp_server.proofs.Alike.{alike_self, opens_alike}
use Rattle.sp_server.proofs.Told.{said}

-- a form that opens a session is refused for nothing
abbrev pub IsNotRefused : Type 0
IsNotRefused =
    (config : SpConfig) (rows : RowsView) (horizon now : ℕ) (body : List ℕ) (b : Brought) (asked : AskedRow)
    (verdict : Verdict)
    → Opens config rows horizon now body b asked → ¬ (IsRefused config rows horizon now body verdict)

-- and it opens one session alone
abbrev pub IsOneLogin : Type 0
IsOneLogin =
    (config : SpConfig) (rows : RowsView) (horizon now : ℕ) (body : List ℕ) (b other : Brought)
    (row for_other : AskedRow)
    → Opens config rows horizon now body b row → Opens config rows horizon now body other for_other → b ≡ other

pub only_where : OnlyWhereAFormOpens
only_where setup held request now answer r (steps.ByOpening b row to unexpired opens token is has shown) =
    let same : opened_record setup.config held now b ≡ kinds.Opened r = cc in
    record {
      brought = b;
      row = row;
      opens = record { posted = to; unexpired = unexpired; opens = opens };
      is = sym same;
      token = token;
      has = subst (λ (x : SpRecord). steps.HasId x token) same has;
      answered = shown;
    }
only_where setup held request now answer r other =
    absurd (let says = (said setup held request now answer (Some (kinds.Opened r)) other).is in cc)

-- what is answered where a form opens a session
record IsGiven (setup : Setup) (held : Held) (request : Request) (now : ℕ) (answer : Answer) (adds : Option SpRecord) :
    Type 0 where
  r : SpRecord
  is : adds ≡ Some r
  gives : GivesSession setup held request now r answer

answered : IsNotRefused → (setup : Setup) (held : Held) (request : Request) (now : ℕ) (answer : Answer)
    (adds : Option SpRecord) (b : Brought) (row : AskedRow)
    → OpensOver setup held request now b row → Answers setup held request now answer adds
    → IsGiven setup held request now answer adds
answered not_refused setup held request now answer adds b row over
    (steps.ByOpening c asked to unexpired opens token is has shown) =
    record {
      r = opened_record setup.config held now c;
      is = is;
      gives =
          record {
            brought = c;
            row = asked;
            opens = record { posted = to; unexpired = unexpired; opens = opens };
            is =
                refl;
            token = token;
            has = has;
            answered = shown;
          };
    }
answered not_refused setup held request now answer adds b row over
    (steps.ByVerdict verdict to unexpired refused is none) =
    absurd (not_refused setup.config _ held.header.horizon now request.body b row verdict over.opens refused)
answered not_refused setup held request now answer adds b row over other =
    absurd (let says = (said setup held request now answer adds other).is in cc)

-- the record of a session that is given is that of the login which the form brings
its_record : IsOneLogin → (setup : Setup) (found : Held) (request : Request) (now : ℕ) (b : Brought) (row : AskedRow)
    → OpensOver setup found request now b row
    → (r : SpRecord) (answer : Answer) → GivesSession setup found request now r answer
    → r ≡ opened_record setup.config found now b
its_record one_login setup found request now b row over r answer gives =
    let brought : gives.brought ≡ b =
    one_login setup.config (rows_seen (rows_of found.records)) found.header.horizon now request.body gives.brought b
    gives.row row gives.opens.opens over.opens in
    gives.is ∙ ap (opened_record setup.config found now) brought

-- behind a compaction at the moment the form opens the session as before
opens_behind : CompactionsChangeNoAnswer
    → (setup : Setup) (found held : Held) (request : Request) (now : ℕ) (b : Brought) (row : AskedRow)
    → IsBehind request_rules found now held → OpensOver setup found request now b row
    → OpensOver setup held request now b row
opens_behind law setup found held request now b row behind over = record {
  posted = over.posted;
  unexpired = over.unexpired;
  opens =
      opens_alike setup.config now held found request.body b row
      (alike_behind request_rules found now AnswerAlike alike_self law held behind) over.opens;
}

module _ (not_refused : IsNotRefused) (one_login : IsOneLogin) (setup : Setup) (held : Held) (request : Request)
    (now : ℕ)
    (answer : Answer) (b : Brought) (row : AskedRow) (over : OpensOver setup held request now b row) where
  -- what is recorded where the form opens a session is its record, and the session is given
  its_own : (adds : Option SpRecord) → Answers setup held request now answer adds
      → adds ≡ Some (opened_record setup.config held now b)
  its_own adds answers =
      let is = answered not_refused setup held request now answer adds b row over answers in
      is.is ∙ ap Some (its_record one_login setup held request now b row over is.r answer is.gives)

  given : Answers setup held request now answer (Some (opened_record setup.config held now b))
      → GivesSession setup held request now (opened_record setup.config held now b) answer
  given answers =
      let is =
      answered not_refused setup held request now answer (Some (opened_record setup.config held now b)) b row over answers
      in
      let same : is.r ≡ opened_record setup.config held now b = (let e = is.is in cc) in
      subst (λ (x : SpRecord). GivesSession setup held request now x answer) same is.gives

pub wherever : IsNotRefused → IsOneLogin → CompactionsChangeNoAnswer → WhereverAFormOpens
wherever not_refused one_login law found request now faults later answer old new b row serves over room calm =
    of_case
    (comes_of_wanted request_rules Answers found request now (Rose faults later) answer old new recorded
    (λ held behind other adds answers. its_own not_refused one_login old.setup held request now other b row
    (opens held behind) adds answers) room calm serves)
  where
    recorded : Held → SpRecord
    recorded held = opened_record old.setup.config held now b

    opens : (held : Held) → IsBehind request_rules found now held → OpensOver old.setup held request now b row
    opens held behind = opens_behind law old.setup found held request now b row behind over

    of_case : (answer ≡ Fixed NO_MEMORY)
        ⊎ IsAdded request_rules Answers found request now (Rose faults later) answer old new recorded
        → (answer ≡ Fixed NO_MEMORY) ⊎ IsOpened old.setup found request now b answer new.ledger.held
    of_case (inl is) = inl is
    of_case (inr one) = inr (record {
      held = one.held;
      over = one.over;
      gives =
          given not_refused one_login old.setup one.held request now answer b row (opens one.held one.behind)
          one.answers;
      added = one.added;
    })
