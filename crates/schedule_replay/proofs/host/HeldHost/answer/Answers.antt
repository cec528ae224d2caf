use Rattle.std.proofs.Common.{refl, ℕ, List, sym, ap, ◌∙◌, subst, None, Some, Ok, arith}
use Rattle.std.specs.Prelude.{IfSome}
use Rattle.std.specs.FinMap as map
use Rattle.http_wire.specs.Requests.{Whole, Reads}
use Rattle.http_wire.specs.Views.{answer_bytes}
use Rattle.conn_table.specs.Table.{Table}
use Rattle.schedule_replay.specs.Hosts.{Sent, world_of}
use Rattle.schedule_replay.specs.Views.{host_in}
use Rattle.schedule_replay.proofs.host.HeldHost.answer.Goals as goal

pub returns-clause-answers : goal.returns-clause-answers
returns-clause-answers g c =
    let a = c.in_ok-path.ensures.asked in
    let bytes = c.in_ok-bytes.ensures ∙ ap answer_bytes (sym a.2) in (
      a.0,
      a.1,
      ap (λ (p : List ℕ). Sent (Some p) c.in_ok-bytes.bytes) (sym a.3) ∙ ap (λ (b : List ℕ). Sent (Some a.0.request.path) b) bytes,
      record {
        request = subst (λ (n : ℕ). IfSome (map.get c.args.self.now.conns.now n) (λ bytes. Reads bytes (Whole a.0.request))) (sym a.1) a.4;
        told = world_of c.args.now (host_in c.ask.new.self);
        asks = a.5;
        sends = record { out = (Ok tt, None, refl, refl, omega arith, tt, refl); same = refl };
        gone =
            c.gone.ensures ∙ ap (λ (t : Table). map.remove t c.args.conn) c.ask.ensures.conns
            ∙ ap (λ (n : ℕ). map.remove c.args.self.now.conns.now n) (sym a.1);
      },
      a.6,
    )
