use Rattle.std.proofs.Common.{refl, ℕ, [], ◌∷◌, subst, sym, ap, inl, inr}
use Rattle.crash_disk.specs.InMemory.{shown_in_memory}
use Rattle.conn_table.specs.declared.progress.Progress.{Progress}
use Rattle.conn_table.specs.declared.progress.Progress.TheVariants as progress
use Rattle.conn_table.specs.Calls.{TakesPiece}
use Rattle.conn_table.specs.Events.{Piece}
use Rattle.serve_loop.specs.Turns.{Unknown, Waiting, Answered, Refused}
use Rattle.serve_loop.proofs.Leaving.{asked_once}
use Rattle.serve_loop.proofs.Refusing.{refused_page}
use Rattle.schedule_replay.specs.Hosts.{told}
use Rattle.schedule_replay.specs.Views.{host_in}
use Rattle.schedule_replay.proofs.Hosting.{leaves_same, sends_page}
use Rattle.schedule_replay.proofs.host.HeldHost.take.Goals as goal

pub refuse-requires : goal.refuse-requires
refuse-requires g c =
    refused_page c.args.self.now.conns.now c.args.conn c.args.piece.now c.in-Refused.status c.piece.new.self c.in-Refused.ensures

pub returns-in-Waiting-clause-takes : goal.returns-in-Waiting-clause-takes
returns-in-Waiting-clause-takes g c =
    let conn = c.args.conn in
    let bytes = c.args.piece.now in
    let host = host_in c.args.self.now in
    let takes = λ (answer : Progress). TakesPiece host.kept conn bytes answer c.piece.new.self in
    elim c.in-Waiting.is [
      | inl is ↦
          record {
            turn = Waiting conn bytes;
            event = refl;
            fed = tt;
            serves = record { does = (subst takes is c.piece.ensures, refl); leaves = leaves_same g.N.Node.rules.leaves host host (Waiting conn bytes ∷ []) refl };
            comes = refl;
          }
      | inr is ↦
          record {
            turn = Unknown conn bytes;
            event = refl;
            fed = tt;
            serves = record { does = (subst takes is c.piece.ensures, refl); leaves = leaves_same g.N.Node.rules.leaves host host (Unknown conn bytes ∷ []) refl };
            comes = refl;
          }
    ]

pub returns-in_ok-answer-in-Ready-clause-takes : goal.returns-in_ok-answer-in-Ready-clause-takes
returns-in_ok-answer-in-Ready-clause-takes g c =
    let bytes = c.args.piece.now in
    let host = host_in c.args.self.now in
    let a = c.in_ok-answer-in-Ready.ensures.answers in
    record {
      turn = Answered bytes a.0;
      event = ap (λ (n : ℕ). Piece n bytes) a.1;
      fed = tt;
      serves = record {
        does = (c.piece.new.self, subst (λ (n : ℕ). TakesPiece host.kept n bytes progress.Ready c.piece.new.self) (sym a.1) c.in-Ready.ensures, a.3);
        leaves =
            asked_once g.N.Node.rules.leaves shown_in_memory (told host) host.disk
            (host_in c.answer.new.self).disk bytes a.0 a.4;
      };
      comes = a.2;
    }

pub returns-in_ok-refuse-in-Refused-clause-takes : goal.returns-in_ok-refuse-in-Refused-clause-takes
returns-in_ok-refuse-in-Refused-clause-takes g c =
    let conn = c.args.conn in
    let bytes = c.args.piece.now in
    let status = c.in-Refused.status in
    let old = host_in c.args.self.now in
    let new = host_in c.refuse.new.self in
    let is = c.in_ok-refuse-in-Refused.ensures in
    record {
      turn = Refused conn bytes status;
      event = refl;
      fed = tt;
      serves = record {
        does = (
          c.piece.new.self,
          c.in-Refused.ensures,
          record { sends = sends_page conn status c.args.now old new is.node is.disk; gone = is.gone },
        );
        leaves = leaves_same g.N.Node.rules.leaves old new (Refused conn bytes status ∷ []) is.disk;
      };
      comes = is.page;
    }
