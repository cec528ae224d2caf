-- Whom an identity provider asks at a logout, and what follows each answer: SAML Profiles, 4.4.3.3 and 4.4.3.4.
use Rattle.std.specs.Prelude.{ℕ, Bool, true, false, ◌&&◌, List, [], ◌∷◌, length, Option, None, Some, slice_get, if◌then◌else◌}
use Rattle.std.specs.Option.{option_map}
use Rattle.ledger_records.specs.declared.idp_record.IdpRecord.{IdpRecord}
use Rattle.logout_turns.specs.declared.part.Asker.{Asker}
use Rattle.logout_turns.specs.declared.part.Part.{Part}
use Rattle.logout_turns.specs.declared.turns.Turn.{Turn}
use Rattle.logout_fanout.specs.Plan.{skipped, turns}
use Rattle.logout_fanout.specs.Round.{after_answer, next, round_at}
use Rattle.logout_fanout.specs.declared.round.Next.{Next}
use Rattle.logout_fanout.specs.declared.round.Next.TheVariants.{Ask, Done}
use Rattle.round_rows.specs.declared.row.RoundRow.{RoundRow}
use Rattle.idp_ledger.specs.Drafts.{round, told}
use Rattle.idp_rows.specs.Finding.{parts_of, turn_found}
use Rattle.idp_ledger.specs.Ledger.{Held, next_number}
use Rattle.idp_rows.specs.RowsOf.{rows_of}
use Rattle.round_rows.specs.Rounds.{is_turn_left}
use Rattle.idp_rules.specs.declared.config.IdpConfig.{IdpConfig}
use Rattle.idp_server.specs.declared.reply.Follows.{Follows}
use Rattle.idp_server.specs.declared.reply.Follows.TheVariants as follows

-- whether a list has items
abbrev pub has_some : {X : Type 0} → List X → Bool
has_some [] = false
has_some (x ∷ xs) = true

-- the name of the provider that asks, where one does
abbrev pub name_of : Option Asker → Option (List ℕ)
name_of asker = option_map (λ (a : Asker). a.peer) asker

-- what the sessions of these cookies were used for
abbrev pub parts : Held → (cookies : List (List ℕ)) → List Part
parts held cookies = parts_of cookies (rows_of held.records).issues

module _ (setup : IdpConfig) (held : Held) where
  -- who is asked where these sessions end, each other provider in its turn, and whether some can't be asked
  abbrev pub turns_for : Option Asker → (cookies : List (List ℕ)) → List Turn
  turns_for asker cookies = turns (name_of asker) setup.peers (parts held cookies)

  abbrev pub skips_for : Option Asker → (cookies : List (List ℕ)) → Bool
  skips_for asker cookies = skipped (name_of asker) setup.peers (parts held cookies)

  -- whether a round begins: the provider is set up to ask the others, and there is one to ask
  abbrev pub asks_others : Option Asker → (cookies : List (List ℕ)) → Bool
  asks_others asker cookies = setup.fanout && has_some (turns_for asker cookies)

  -- the record that ends these sessions, and begins a round
  abbrev pub round_by : (now : ℕ) → Option Asker → (cookies : List (List ℕ)) → IdpRecord
  round_by now asker cookies =
      round setup.id_key (next_number held) now cookies asker (turns_for asker cookies) (skips_for asker cookies)

  -- the round that waits for the answer of this provider to this request
  abbrev pub round_waiting : (now : ℕ) (request peer : List ℕ) → Option RoundRow
  round_waiting now request peer =
      if setup.fanout then turn_found (rows_of held.records).rounds request peer now held.header.horizon else None

  -- the record of that answer
  abbrev pub told_by : (now : ℕ) (request : List ℕ) (confirms : Bool) → RoundRow → IdpRecord
  told_by now request confirms row = told setup.id_key (next_number held) now request confirms (is_turn_left row)

-- what is next in a round behind one answer more
abbrev pub next_in : RoundRow → (confirms : Bool) → Next
next_in row confirms = next (after_answer confirms (round_at (length row.turns) row.skipped row.told row.confirmed))

-- the same with what is told then: to the provider whose turn it is, or to the one that asked for the logout
abbrev pub follows_by : RoundRow → Next → Option Follows
follows_by row (Ask place) = option_map follows.Turn (slice_get row.turns place)
follows_by row (Done partial) = Some (follows.End row.message row.asker partial)

abbrev pub follows_of : RoundRow → (confirms : Bool) → Option Follows
follows_of row confirms = follows_by row (next_in row confirms)
