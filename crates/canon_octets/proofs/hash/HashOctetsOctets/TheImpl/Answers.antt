use Rattle.std.proofs.Common.{refl}
use Rattle.canon_octets.specs.Composing.{appends_by_taking}
use Rattle.canon_octets.specs.Hashed.{HasTaken}
use Rattle.canon_octets.proofs.Appending.{on_ok, on_err, all_part}
use Rattle.canon_octets.proofs.hash.HashOctetsOctets.TheImpl.Goals as goal

pub put-tells : goal.put-tells
put-tells c = record {
  ok = on_ok c.result c.ensures.taken;
  err =
      on_err c.result
      (all_part (appends_by_taking HasTaken) c.args.self.now c.new.self.now c.args.bytes.now c.ensures.taken);
  refusing = on_err c.result refl;
}
