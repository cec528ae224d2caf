use Rattle.std.proofs.Common.{◌≡◌, [], ◌∷◌, ◌++◌, List, rules, append_assoc}
use Rattle.std.specs.Option.{option_to_list}
use Rattle.event_link.specs.declared.arrival.Arrival.{Arrival}
use Rattle.event_link.specs.InMemory.{HaveBytes, arrival_of}
use Rattle.event_link.proofs.LinkLaws.{HaveBytes-append, HaveBytes-arrival_of}
use Rattle.event_link.proofs.queue.Queue.add.Goals as goal

pub invariant_of-self-2 : goal.invariant_of-self-2
invariant_of-self-2 c =
    let begun : List Arrival = option_to_list c.self.inside.begun in
    let arrivals : List Arrival = c.self.inside.arrivals.items in
    let last : List Arrival = arrival_of c.args.event c.args.bytes.now ∷ [] in
    let items : c.push_back.new.self.items ≡ arrivals ++ last = search rules in
    let have : HaveBytes ((begun ++ arrivals) ++ last) =
    HaveBytes-append (begun ++ arrivals) last c.self.invariant (HaveBytes-arrival_of c.args.event c.args.bytes.now c.requires) in
    let regrouped : HaveBytes (begun ++ (arrivals ++ last)) = rw append_assoc at have in
    rw items regrouped
