use Rattle.std.proofs.Common.{refl, sym, ◌∙◌, arith}
use Rattle.http_wire.specs.Views.{request_view}
use Rattle.serve_loop.proofs.Taking.{clocked}
use Rattle.serve_loop.proofs.turns.Serving.ask.Goals as goal

pub returns-clause-asked : goal.returns-clause-asked
returns-clause-asked g c =
    let before = c.args.self.now in (
      record {
        conn = c.args.conn;
        request = request_view c.request.result;
        now = c.min-now.result;
        node = before.node.now;
        disk = (g.D.Disk.shows before.disk.now).told;
        answer = c.answer.result;
      },
      refl,
      refl,
      c.request.ensures,
      record {
        node = refl;
        disk = refl;
        moment = record {
          moment = clocked (g.C.Clock.to_come before.clock.now) c.now.result
              c.min-now.result c.now.ensures.moment c.min-now.ensures;
          limit = omega (arith, c.min-now.ensures);
          later = c.now.ensures.later;
        };
        time = c.answer.ensures.moments.later;
        disk_faults = c.answer.ensures.faults;
        answers = record {
          does = c.answer.ensures.step;
          reads = g.met.D.Disk.reads_an_image before.disk.now;
          reads_later = g.met.D.Disk.reads_an_image c.answer.new.disk;
          owns = c.answer.ensures.own;
          tells = g.met.D.Disk.tells_always c.answer.new.disk ∙ sym (g.met.D.Disk.tells_always before.disk.now);
          left = λ image left. c.answer.ensures.moments.each image (g.met.D.Disk.counts_now c.answer.new.disk
              (g.D.Disk.shows before.disk.now).moment image c.answer.ensures.moments.later left);
        };
        link = refl;
        send_faults = refl;
      },
      c.answer.ensures.moments,
    )
