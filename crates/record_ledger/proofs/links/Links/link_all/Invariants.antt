use Rattle.std.proofs.Common.{◌≡◌, List, length, take}
use Rattle.record_ledger.specs.Linking.{AreRows, HaveRows, LinksThem}
use Rattle.record_ledger.proofs.links.Links.link_all.Given as goal

abbrev pub invariant-loop-id : goal.invariant-loop-id
invariant-loop-id g l = record {
  numbers : l.self.numbers ≡ l.initial.self.numbers;
  places : l.self.places ≡ l.initial.self.places;
  long : length l.self.links.items ≡ length l.initial.self.links.items;
  links : (records : List g.row.S-Record.Denot) → AreRows g.S.Standing.rules g.S.Standing.link_rules records l.initial.self → HaveRows g.S.Standing.rules g.S.Standing.link_rules records l.ids
      → LinksThem g.S.Standing.rules g.S.Standing.link_rules records (take l.id-index l.ids) l.place l.initial.self.links.items l.self.links.items;
}
