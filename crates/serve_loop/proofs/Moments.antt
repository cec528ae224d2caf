-- The moments at which requests were asked.
use Rattle.std.specs.Prelude.{◌≡◌, ℕ, ◌+◌, ◌<◌, min, List, [], ◌∷◌, ◌++◌, length, map, slice_index, Option, Some}
use Rattle.std.specs.Prelude.{IfSome}
use Rattle.std.specs.Option.{option_map}
use Rattle.std.proofs.Common.{sym, ap, subst, ◌∙◌, append-nil, zero-add, arith, length-append, get_or, inl, inr}
use Rattle.std.proofs.lemmas.Bool.{cases_lt}
use Rattle.std.proofs.lemmas.List.{map-append, get_or_append_left, length-map}
use Rattle.std.proofs.Math.Seq.{get_or-append_seam}
use Rattle.saml_time.specs.declared.TheConstants.{LAST}
use Rattle.event_link.specs.Clocks.{now_of, later_of, moment_at}
use Rattle.conn_table.specs.Table.{Table}
use Rattle.serve_loop.specs.Laws.{MomentsComeInOrder}
use Rattle.serve_loop.specs.Turns.{Asked, Turn, asked_by, asked_in, Run}
use Rattle.serve_loop.specs.Worlds.{NodeStep, World, TakesMoment}
use Rattle.serve_loop.proofs.Quiet.{Asking, Goes, Quiet, goes}

abbrev time_of : {N : Type 0} → Asked N → ℕ
time_of asked = asked.now

-- so far each request was asked at its moment, and these are to come
record Timed {N : Type 0} (moments : List ℕ) (asked : List (Asked N)) (clock : Option (List ℕ)) : Type 0 where
  rest : List ℕ
  told : clock ≡ Some rest
  ahead : (k : ℕ) → moment_at rest k ≡ moment_at moments (length asked + k)
  times : (k : ℕ) → k < length asked → slice_index (map time_of asked) k ≡ min (moment_at moments k) LAST

module _ (first_law : (moments : List ℕ) → now_of moments ≡ moment_at moments 0) (later_law : (moments : List ℕ) (k : ℕ)
    → moment_at (later_of moments) k ≡ moment_at moments (k + 1)) {N : Type 0} (moments : List ℕ) where
  one_more : (past : List (Asked N)) (asked : Asked N) (clock now : Option (List ℕ))
      → Timed moments past clock → TakesMoment clock asked.now now → Timed moments (past ++ asked ∷ []) now
  one_more past asked clock now timed takes =
      let at : asked.now ≡ min (now_of timed.rest) LAST = subst
      (λ (c : Option (List ℕ)). IfSome c (λ m. asked.now ≡ min (now_of m) LAST)) timed.told takes.moment in
      let long = length-append past (asked ∷ []) in
      let grows : map time_of (past ++ asked ∷ []) ≡ map time_of past
      ++ asked.now ∷ [] = map-append time_of past (asked ∷ []) in
      record {
        rest = later_of timed.rest;
        told = takes.later ∙ ap (option_map later_of) timed.told;
        ahead = λ k. later_law timed.rest k ∙ timed.ahead (k + 1) ∙ ap (moment_at moments) (omega (arith, long));
        times = λ k below. elim (cases_lt k (length past)) [
          | inl before ↦
              let inside : k < length (map time_of past) = omega (arith, length-map past time_of, before) in
              ap (λ (l : List ℕ). get_or l k 0) grows
              ∙ get_or_append_left (map time_of past) (asked.now ∷ []) 0 k inside ∙ timed.times k before
          | inr behind ↦
              let last : k ≡ length (map time_of past) = omega (arith, length-map past time_of, long, behind, below) in
              let here : moment_at timed.rest 0 ≡ moment_at moments k = timed.ahead 0
              ∙ ap (moment_at moments) (omega (arith, length-map past time_of, last)) in
              ap (λ (l : List ℕ). get_or l k 0) grows
              ∙ ap (λ (i : ℕ). get_or (map time_of past ++ asked.now ∷ []) i 0) last ∙ get_or-append_seam
              (map time_of past) asked.now [] 0 ∙ at ∙ ap (λ m. min m LAST) (first_law timed.rest ∙ here)
        ];
      }

  module _ (step : NodeStep N) where
    one_timed : (past : List (Asked N)) (turn : Turn N) (given : World N) (new : Table) (now : World N) → Timed
        moments past given.clock → Goes step given new now turn → Timed moments (past ++ asked_by turn) now.clock
    one_timed past turn given new now timed (Quiet none same) =
        let list : past ++ asked_by turn ≡ past = ap (λ (l : List (Asked N)). past ++ l) none ∙ append-nil past in
        subst (λ (l : List (Asked N)). Timed moments l now.clock) (sym list)
        (subst (λ (c : Option (List ℕ)). Timed moments past c) (sym (ap (λ (w : World N). w.clock) same)) timed)
    one_timed past turn given new now timed (Asking piece asked old answers) =
        subst (λ (c : Option (List ℕ)). Timed moments (past ++ asked ∷ []) c) (sym (ap (λ (w : World N). w.clock)
        answers.sends.same)) (one_more past asked given.clock answers.told.clock timed answers.asks.moment)

    all_timed : (first : World N) (turns : List (Turn N)) (kept : Table) (now : World N)
        → Run step first turns kept now → first.clock ≡ Some moments → Timed moments (asked_in turns) now.clock
    all_timed first [] kept now run told = record {
      rest = moments;
      told = ap (λ (w : World N). w.clock) run.1 ∙ told;
      ahead = λ k. ap (moment_at moments) (sym (zero-add k));
      times = λ k below. absurd (omega arith);
    }
    all_timed first (turn ∷ past) kept now (old, before, given, did, next, does) told = one_timed (asked_in past) turn
        given kept now (subst (λ (c : Option (List ℕ)). Timed moments (asked_in past) c) (sym (ap (λ (w : World N).
        w.clock) next.same)) (all_timed first past old before did told)) (goes step given kept now turn old does)

pub moments_come_in_order : ((moments : List ℕ) → now_of moments ≡ moment_at moments 0)
    → ((moments : List ℕ) (k : ℕ) → moment_at (later_of moments) k ≡ moment_at moments (k + 1))
    → {N : Type 0} (step : NodeStep N) → MomentsComeInOrder step
moments_come_in_order first_law later_law step first turns kept now moments run told =
    (all_timed first_law later_law moments step first turns kept now run told).times
