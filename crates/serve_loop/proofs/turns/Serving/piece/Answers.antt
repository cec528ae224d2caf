use Rattle.std.proofs.Common.{refl, ℕ, [], ◌∷◌, subst, sym, ap, inl, inr}
use Rattle.conn_table.specs.declared.progress.Progress.{Progress}
use Rattle.conn_table.specs.declared.progress.Progress.TheVariants as progress
use Rattle.conn_table.specs.Calls.{TakesPiece}
use Rattle.conn_table.specs.Events.{Piece}
use Rattle.serve_loop.specs.Turns.{Unknown, Waiting, Answered, Refused, StarvedPiece}
use Rattle.serve_loop.proofs.Leaving.{untouched, asked_once}
use Rattle.serve_loop.proofs.Refusing.{refused_page}
use Rattle.serve_loop.proofs.turns.Serving.piece.Goals as goal

pub refuse-requires : goal.refuse-requires
refuse-requires g c = refused_page c.args.self.now.conns.now
    c.args.conn c.args.bytes.now c.in-Refused.status c.piece.new.self c.in-Refused.ensures

pub returns-in-Waiting-clause-does : goal.returns-in-Waiting-clause-does
returns-in-Waiting-clause-does g c = let conn = c.args.conn in
    let bytes = c.args.bytes.now in
    let disk = c.args.self.now.disk.now in
    let takes = λ (answer : Progress). TakesPiece c.args.self.now.conns.now conn bytes answer c.piece.new.self in
    elim c.in-Waiting.is [
      | inl is ↦ (
        Waiting conn bytes,
        refl,
        (subst takes is c.piece.ensures, refl),
        untouched g.N.Node.rules.leaves g.D.Disk.shows g.met.D.Disk.only_now disk disk (Waiting conn bytes ∷ []) refl,
      )
      | inr is ↦ (
        Unknown conn bytes,
        refl,
        (subst takes is c.piece.ensures, refl),
        untouched g.N.Node.rules.leaves g.D.Disk.shows g.met.D.Disk.only_now disk disk (Unknown conn bytes ∷ []) refl,
      )
    ]

pub returns-in-Ready-clause-does : goal.returns-in-Ready-clause-does
returns-in-Ready-clause-does g c = let bytes = c.args.bytes.now in
    let a = c.answer.ensures.answers in (
      Answered bytes a.0,
      ap (λ (n : ℕ). Piece n bytes) a.1,
      (
        c.piece.new.self,
        subst (λ (n : ℕ). TakesPiece c.args.self.now.conns.now n bytes progress.Ready c.piece.new.self)
            (sym a.1) c.in-Ready.ensures,
        a.2,
      ),
      asked_once g.N.Node.rules.leaves g.D.Disk.shows (g.D.Disk.shows c.args.self.now.disk.now).told
          c.args.self.now.disk.now c.answer.new.self.disk.now bytes a.0 a.3,
    )

pub returns-in-Refused-clause-does : goal.returns-in-Refused-clause-does
returns-in-Refused-clause-does g c =
    let turn = Refused c.args.conn c.args.bytes.now c.in-Refused.status in (
      turn,
      refl,
      (c.piece.new.self, c.in-Refused.ensures, c.refuse.ensures.lets_go),
      untouched g.N.Node.rules.leaves g.D.Disk.shows g.met.D.Disk.only_now
          c.args.self.now.disk.now c.refuse.new.self.disk.now (turn ∷ []) c.refuse.ensures.others.disk,
    )

pub returns-in-NoMemory-clause-does : goal.returns-in-NoMemory-clause-does
returns-in-NoMemory-clause-does g c = let turn = StarvedPiece c.args.conn c.args.bytes.now in
    let refuse = c.refuse-in-NoMemory in (
      turn,
      refl,
      (c.piece.new.self, c.in-NoMemory.ensures, refuse.ensures.lets_go),
      untouched g.N.Node.rules.leaves g.D.Disk.shows g.met.D.Disk.only_now c.args.self.now.disk.now refuse.new.self.disk.now
          (turn ∷ []) refuse.ensures.others.disk,
    )
