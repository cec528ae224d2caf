-- What a compaction leaves as it was: the answers at its moment.
use Rattle.std.proofs.Common.{ℕ, List, refl}
use Rattle.hub_ledger.specs.RowsOf.{rows_of}
use Rattle.hub_ledger.specs.Record.{AreRecords, hub_rules}
use Rattle.hub_ledger.specs.Ledger.{Held}
use Rattle.hub_ledger.specs.Compacting.{Compacts}
use Rattle.hub_ledger.specs.Laws.{AnswerAlike, CompactionsChangeNoAnswer}
use Rattle.provider_node.proofs.Alike as any
use Rattle.sp_rules.specs.declared.accepted.Accepted.{Accepted}
use Rattle.sp_rules.specs.declared.config.SpConfig.{SpConfig}
use Rattle.sp_rules.specs.Shown.{IsOpening}
use Rattle.sp_answers.specs.Judging.{LikeRowsOpenAlike, RowsAnswerAlike}
use Rattle.identity_hub.specs.Step.{rows_seen}

pub alike_self : (now : ℕ) (held : Held) → AnswerAlike now held held
alike_self now held =
    record {
      asked = λ request. refl;
      spent = λ request is. refl;
      seen = λ issuer assertion. refl;
      routed =
          λ request. refl;
    }

pub alike : CompactionsChangeNoAnswer → (now : ℕ) (old new : Held) → AreRecords old.records → Compacts now old new
    → AnswerAlike now new old
alike = any.alike hub_rules AnswerAlike alike_self

-- a login from above is judged by what is answered alike
pub rows_alike : (now : ℕ) (one other : Held) → AnswerAlike now one other
    → RowsAnswerAlike now (rows_seen (rows_of one.records)) one.header.horizon (rows_seen (rows_of other.records))
    other.header.horizon
rows_alike now one other like = record { asked = like.asked; spent = like.spent; seen = like.seen }

pub opening_alike : LikeRowsOpenAlike → (config : SpConfig) (now : ℕ) (one other : Held) (body : List ℕ)
    (accepted : Accepted) → AnswerAlike now one other
    → IsOpening config (rows_seen (rows_of other.records)) other.header.horizon now body accepted
    → IsOpening config (rows_seen (rows_of one.records)) one.header.horizon now body accepted
opening_alike law config now one other body accepted like opening = record {
  brought = opening.brought;
  asked = opening.asked;
  opens =
      law config now (rows_seen (rows_of one.records)) one.header.horizon (rows_seen (rows_of other.records))
      other.header.horizon body opening.brought opening.asked (rows_alike now one other like) opening.opens;
  is = opening.is;
}
