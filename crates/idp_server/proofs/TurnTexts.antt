-- The texts of a plan are those of records.
use Rattle.std.proofs.Common.{◌≡◌, ℕ, Bool, true, false, ◌&&◌, if◌then◌else◌, List, [], ◌∷◌, ◌++◌, map, filter, Option, bytes_eq, refl, ◌∙◌}
use Rattle.std.specs.List.{flat_map, list_all}
use Rattle.std.proofs.lemmas.Bool.{and_parts}
use Rattle.std.proofs.lemmas.List.Folds.{list_all-append}
use Rattle.xml_spec.proofs.Tests.{and_true}
use Rattle.ledger_rules.specs.Numbers.{is_xml_text}
use Rattle.logout_turns.specs.declared.part.Asker.{Asker}
use Rattle.logout_turns.specs.declared.part.Part.{Part}
use Rattle.logout_fanout.specs.Plan.{can_be_asked, firsts, firsts_after, indexes_of, is_among, once_after, turn_of, turns}
use Rattle.peer_keys.specs.declared.peers.LogoutPeer.{LogoutPeer}
use Rattle.idp_rows.specs.declared.row.IssuedRow.{IssuedRow}
use Rattle.idp_ledger.specs.Drafts.{AreXmlTurns}
use Rattle.idp_rows.specs.Finding.{part_of}
use Rattle.idp_ledger.specs.Ledger.{Held}
use Rattle.idp_ledger.specs.Record.{AreRecords}
use Rattle.idp_rows.specs.Record.{of_turn}
use Rattle.idp_rows.specs.RowsOf.{is_among as is_one_of, issued_rows}
use Rattle.idp_ledger.proofs.RoundTexts.{is_part_xml, parts_allowed}
use Rattle.idp_rules.specs.declared.config.IdpConfig.{IdpConfig}
use Rattle.idp_server.specs.Rounds.{name_of, parts, turns_for}

-- ---- lists of which each passes

pass_filter : {X : Type 0} (test keep : X → Bool) (xs : List X) → list_all test xs ≡ true
    → list_all test (filter keep xs) ≡ true
pass_filter test keep [] all = refl
pass_filter {X} test keep (x ∷ xs) all =
    let both = and_parts (test x) (list_all test xs) all in
    by_test (keep x) both.0 (pass_filter test keep xs both.1)
  where
    by_test : (b : Bool) → test x ≡ true → list_all test (filter keep xs) ≡ true
        → list_all test (if b then x ∷ filter keep xs else filter keep xs) ≡ true
    by_test true here rest = and_true (test x) (list_all test (filter keep xs)) here rest
    by_test false here rest = rest

pass_map : {X Y : Type 0} (test : Y → Bool) (f : X → Y) (other : X → Bool)
    → ((x : X) → other x ≡ true → test (f x) ≡ true) → (xs : List X)
    → list_all other xs ≡ true → list_all test (map f xs) ≡ true
pass_map test f other gives [] all = refl
pass_map test f other gives (x ∷ xs) all =
    let both = and_parts (other x) (list_all other xs) all in
    and_true (test (f x)) (list_all test (map f xs)) (gives x both.0) (pass_map test f other gives xs both.1)

pass_firsts : (test : Part → Bool) (before : List (List ℕ)) (ps : List Part) → list_all test ps ≡ true
    → list_all test (firsts_after before ps) ≡ true
unfolding firsts_after
pass_firsts test before [] all = refl
pass_firsts test before (part ∷ ps) all =
    let both = and_parts (test part) (list_all test ps) all in
    by_test (is_among part.peer before) both.0 (pass_firsts test before ps both.1)
    (pass_firsts test (before ++ part.peer ∷ []) ps both.1)
  where
    by_test : (b : Bool) → test part ≡ true → list_all test (firsts_after before ps) ≡ true
        → list_all test (firsts_after (before ++ part.peer ∷ []) ps) ≡ true
        → list_all test (if b then firsts_after before ps else part ∷ firsts_after (before ++ part.peer ∷ []) ps) ≡ true
    by_test true here rest more = rest
    by_test false here rest more =
        and_true (test part) (list_all test (firsts_after (before ++ part.peer ∷ []) ps)) here more

pass_once : (test : List ℕ → Bool) (before texts : List (List ℕ)) → list_all test texts ≡ true
    → list_all test (once_after before texts) ≡ true
unfolding once_after
pass_once test before [] all = refl
pass_once test before (text ∷ texts) all =
    let both = and_parts (test text) (list_all test texts) all in
    by_test (is_among text before) both.0 (pass_once test before texts both.1)
    (pass_once test (before ++ text ∷ []) texts both.1)
  where
    by_test : (b : Bool) → test text ≡ true → list_all test (once_after before texts) ≡ true
        → list_all test (once_after (before ++ text ∷ []) texts) ≡ true
        → list_all test (if b then once_after before texts else text ∷ once_after (before ++ text ∷ []) texts) ≡ true
    by_test true here rest more = rest
    by_test false here rest more =
        and_true (test text) (list_all test (once_after (before ++ text ∷ []) texts)) here more

-- ---- turns

abbrev is_xml_part : Part → Bool
is_xml_part part = is_xml_text part.peer && is_xml_text part.name && is_xml_text part.index

pass_indexes : (peer : List ℕ) (ps : List Part) → list_all is_xml_part ps ≡ true
    → list_all is_xml_text (indexes_of peer ps) ≡ true
pass_indexes peer ps all =
    pass_once is_xml_text [] (map (λ (part : Part). part.index) (filter (λ (part : Part). bytes_eq part.peer peer) ps))
    (pass_map is_xml_text (λ (part : Part). part.index) is_xml_part
    (λ part is. (and_parts (is_xml_text part.peer && is_xml_text part.name) (is_xml_text part.index) is).1)
    (filter (λ (part : Part). bytes_eq part.peer peer) ps)
    (pass_filter is_xml_part (λ (part : Part). bytes_eq part.peer peer) ps all))

turn_passes : (ps : List Part) → list_all is_xml_part ps ≡ true → (first : Part) → is_xml_part first ≡ true
    → list_all is_xml_text (of_turn (turn_of ps first)) ≡ true
turn_passes ps all first is =
    let one = and_parts (is_xml_text first.peer && is_xml_text first.name) (is_xml_text first.index) is in
    let two = and_parts (is_xml_text first.peer) (is_xml_text first.name) one.0 in
    let rest = list_all is_xml_text (indexes_of first.peer ps) in
    and_true (is_xml_text first.peer) (is_xml_text first.name && rest) two.0
    (and_true (is_xml_text first.name) rest two.1 (pass_indexes first.peer ps all))

each_turn : (ps : List Part) → list_all is_xml_part ps ≡ true → (chosen : List Part)
    → list_all is_xml_part chosen ≡ true
    → list_all is_xml_text (flat_map of_turn (map (turn_of ps) chosen)) ≡ true
each_turn ps all [] chosen_are = refl
each_turn ps all (first ∷ chosen) chosen_are =
    let both = and_parts (is_xml_part first) (list_all is_xml_part chosen) chosen_are in
    list_all-append is_xml_text (of_turn (turn_of ps first)) (flat_map of_turn (map (turn_of ps) chosen))
    ∙ and_true (list_all is_xml_text (of_turn (turn_of ps first)))
    (list_all is_xml_text (flat_map of_turn (map (turn_of ps) chosen)))
    (turn_passes ps all first both.0) (each_turn ps all chosen both.1)

plan_passes : (asker : Option (List ℕ)) (peers : List LogoutPeer) (ps : List Part) → list_all is_xml_part ps ≡ true
    → AreXmlTurns (turns asker peers ps)
plan_passes asker peers ps all =
    each_turn ps all (firsts (filter (can_be_asked asker peers) ps))
    (pass_firsts is_xml_part [] (filter (can_be_asked asker peers) ps)
    (pass_filter is_xml_part (can_be_asked asker peers) ps all))

parts_pass : (held : Held) (cookies : List (List ℕ)) → AreRecords held.records
    → list_all is_xml_part (parts held cookies) ≡ true
parts_pass held cookies are =
    let chosen : IssuedRow → Bool = λ row. is_one_of row.cookie cookies in
    pass_map is_xml_part part_of is_part_xml (λ row is. is) (filter chosen (issued_rows held.records))
    (pass_filter is_part_xml chosen (issued_rows held.records) (parts_allowed held.records are))

pub turns_allowed : (setup : IdpConfig) (held : Held) (asker : Option Asker) (cookies : List (List ℕ))
    → AreRecords held.records → AreXmlTurns (turns_for setup held asker cookies)
turns_allowed setup held asker cookies are =
    plan_passes (name_of asker) setup.peers (parts held cookies) (parts_pass held cookies are)
