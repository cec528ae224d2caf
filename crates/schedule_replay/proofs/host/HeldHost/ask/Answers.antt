use Rattle.std.proofs.Common.{refl, sym, arith, ◌∷◌, [], Some}
use Rattle.crash_disk.specs.Memory.{state_of}
use Rattle.crash_disk.specs.Soundness.{left_since_now, reads_an_image}
use Rattle.http_wire.specs.Views.{request_view}
use Rattle.serve_loop.proofs.Taking.{clocked}
use Rattle.schedule_replay.proofs.host.HeldHost.ask.Goals as goal

pub returns-clause-asked : goal.returns-clause-asked
returns-clause-asked g c =
    let before = c.args.self.now in
    let told = Some (state_of before.disk.now) in (
      record { conn = c.args.conn; request = request_view c.request-request.result; now = c.min.result; node = before.node.now; disk = told; answer = c.answer-answer.result },
      refl,
      refl,
      sym c.in_ok-path.ensures,
      c.request-request.ensures,
      record {
        node = refl;
        disk = refl;
        moment = record {
          moment = clocked (Some (c.args.now ∷ [])) c.args.now c.min.result refl c.min.ensures;
          limit = omega (arith, c.min.ensures);
          later = refl;
        };
        time = c.answer-answer.ensures.moments.later;
        disk_faults = c.answer-answer.ensures.faults;
        answers = record {
          does = c.answer-answer.ensures.step;
          reads = reads_an_image before.disk.now;
          reads_later = reads_an_image c.answer-answer.new.disk;
          owns = c.answer-answer.ensures.own;
          tells = refl;
          left = λ image left. c.answer-answer.ensures.moments.each image (left_since_now c.answer-answer.new.disk _ image c.answer-answer.ensures.moments.later left);
        };
        link = refl;
        send_faults = refl;
      },
      c.answer-answer.ensures.moments,
    )
