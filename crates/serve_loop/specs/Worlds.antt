-- What serving works on, and what its calls do to it.
use Rattle.std.specs.Prelude.{◌≡◌, ◌≢◌, ℕ, ◌≤◌, min, List, Option, None, Some, is_some, IfSome, IsTrue, Result, OnErr, OnOk}
use Rattle.std.specs.Option.{option_map}
use Rattle.saml_time.specs.declared.TheConstants.{LAST}
use Rattle.crash_disk.specs.declared.file_no.Failed.{Failed}
use Rattle.crash_disk.specs.Counts.{Rose}
use Rattle.crash_disk.specs.Disk.{Image, DiskState, MayLeave, image_of}
use Rattle.crash_disk.specs.Moments.{DiskShown, Leaves}
use Rattle.gate_journal.specs.declared.fault.OpenFault.{OpenFault}
use Rattle.event_link.specs.declared.link.LinkEvent.{LinkEvent}
use Rattle.event_link.specs.declared.link.LinkEvent.TheVariants as events
use Rattle.event_link.specs.Clocks.{now_of, later_of}
use Rattle.event_link.specs.Links.{LinkShown, LinkState, Sends, after_next, closed_on, next_of}
use Rattle.http_wire.specs.declared.answer.Answer.{Answer}
use Rattle.http_wire.specs.declared.answer.Answer.TheVariants.{Fixed, Full}
use Rattle.http_wire.specs.Answers.{is_fixed}
use Rattle.http_wire.specs.Requests.{Request}
use Rattle.conn_table.specs.Events.{Event, Started, Piece, Ended}
use Rattle.serve_loop.specs.declared.limits.TheConstants.{PIECE_ROOM}

-- What says what an answer of a node does: node and disk before it, the request, the moment, the disk's count of faults
-- before and after, the answer, node and disk after it.
abbrev pub NodeStep : Type 0 → Type 1
NodeStep N = N → Option DiskState → Request → ℕ → ℕ → ℕ → Answer → N → Option DiskState → Type 0

-- What says what a crash inside an answer of a node may leave: node and disk before it, the request, the moment, the
-- image.
abbrev pub NodeLeaves : Type 0 → Type 1
NodeLeaves N = N → Option DiskState → Request → ℕ → Image → Type 0

-- What says that a disk is a node's own, as far as it tells.
abbrev pub NodeOwns : Type 0 → Type 1
NodeOwns N = N → Option DiskState → Type 0

-- What is said of the calls of a node.
pub record NodeRules (N : Type 0) : Type 1 where
  -- the disk is its own
  pub own : NodeOwns N
  -- what an answer does, and what a crash inside it may leave
  pub step : NodeStep N
  pub leaves : NodeLeaves N
  -- What a restart does: node and disk before it, the disk's count of faults before and after, the result, node and disk
  -- after it.
  pub reopens : N → Option DiskState → ℕ → ℕ → Result (Unit {0}) OpenFault → N → Option DiskState → Type 0
  -- what a crash inside it may leave: node and disk before it, the image
  pub reopening_leaves : N → Option DiskState → Image → Type 0
  -- the same of a compaction, with its moment behind the disk before it
  pub compacts : N → Option DiskState → ℕ → ℕ → ℕ → Result (Unit {0}) OpenFault → N → Option DiskState → Type 0
  pub compaction_leaves : N → Option DiskState → ℕ → Image → Type 0

module _ {N : Type 0} (rules : NodeRules N) (old : N) (disk : Option DiskState)
    (request : Request) (now before after : ℕ) (answer : Answer) (new : N) (later : Option DiskState) where
  -- What an answer does, with what a crash may leave: a disk reads as one of the images that a crash might leave, when
  -- the request came and once it is answered; then the disk is the node's own, it tells where it told, and a crash
  -- leaves only what one inside the answer might leave.
  pub record IsAnswered : Type 0 where
    pub does : rules.step old disk request now before after answer new later
    pub reads : IfSome disk (λ d. MayLeave d (image_of d))
    pub reads_later : IfSome later (λ d. MayLeave d (image_of d))
    pub owns : rules.own new later
    pub tells : is_some later ≡ is_some disk
    pub left : (image : Image) → Leaves later image → rules.leaves old disk request now image

-- The node, and what the disk, the link and the clock tell.
pub record World (N : Type 0) : Type 0 where
  pub node : N
  -- what the disk tells, its count of faults, and its moment
  pub disk : Option DiskState
  pub disk_faults : ℕ
  pub moment : ℕ
  -- what the link tells, and its count of faults of `send`
  pub link : Option LinkState
  pub send_faults : ℕ
  -- the moments to come, where the clock tells them
  pub clock : Option (List ℕ)

-- the world of a node and of what was told
abbrev pub world : {N : Type 0} → N → Option DiskState → ℕ → ℕ → Option LinkState → ℕ → Option (List ℕ) → World N
world n d f m l s c = record { node = n; disk = d; disk_faults = f; moment = m; link = l; send_faults = s; clock = c }

-- the world of a node and of what the disk, the link and the clock show
abbrev pub world_at : {N : Type 0} → N → DiskShown → LinkShown → Option (List ℕ) → World N
world_at node disk link clock = world node disk.told disk.faults disk.moment link.told link.send_faults clock

-- An answer that has bytes: a fixed one names a page.
abbrev pub HasBytes : Answer → Type 0
HasBytes (Fixed code) = IsTrue (is_fixed code)
HasBytes (Full bytes) = Unit {0}

-- What an answer does to the disk's count of faults: it never falls, and is as it was where the answer is another than
-- the page of 50, that the disk failed.
pub record CountsAnswer (answer : Answer) (before now : ℕ) : Type 0 where
  pub never_falls : before ≤ now
  pub kept : answer ≢ Fixed 50 → now ≡ before

-- The event that a link gave, with the bytes of a piece; none at Stop.
abbrev pub event_of : LinkEvent → List ℕ → Option Event
event_of (events.Started conn) bytes = Some (Started conn)
event_of (events.Piece conn n) bytes = Some (Piece conn bytes)
event_of (events.Ended conn) bytes = Some (Ended conn)
event_of events.Stop bytes = None

-- A `next` gives this event, or Stop: the first of what is to come, with room for PIECE_ROOM bytes.
abbrev pub Comes : Option Event → Option LinkState → Option LinkState → Type 0
Comes event None after = after ≡ None
Comes event (Some link) after = let given = next_of PIECE_ROOM link.coming in
    (event ≡ event_of given.event given.bytes) × (after ≡ Some (after_next given link))

-- A `next` gives that, and else all is as it was.
pub record IsNext {N : Type 0} (event : Option Event) (before after : World N) : Type 0 where
  pub comes : Comes event before.link after.link
  pub same : after ≡ record before { link = after.link }

-- One moment is taken from the clock: the lesser of what it gives and LAST.
pub record TakesMoment (before : Option (List ℕ)) (now : ℕ) (after : Option (List ℕ)) : Type 0 where
  pub moment : IfSome before (λ moments. now ≡ min (now_of moments) LAST)
  pub limit : now ≤ LAST
  pub later : after ≡ option_map later_of before

module _ (conn : ℕ) (bytes : List ℕ) (before after : Option LinkState) (faults later : ℕ) where
  -- An answer goes out on a connection, by one `send` of its bytes: all of them, or the `send` failed, so that its count
  -- of faults rose, and the first of them did. Then this connection is closed. No other call is made, as far as the link
  -- tells.
  abbrev pub GoesOut : Type 0
  GoesOut = (result : Result (Unit {0}) Failed) × (sent : Option LinkState) × Sends conn bytes before result sent
      × (after ≡ option_map (closed_on conn) sent) × (faults ≤ later) × OnErr result (Rose faults later)
      × OnOk result (later ≡ faults)

-- That answer goes out, and else all is as it was.
pub record OnlySends {N : Type 0} (conn : ℕ) (bytes : List ℕ) (before after : World N) : Type 0 where
  pub out : GoesOut conn bytes before.link after.link before.send_faults after.send_faults
  pub same : after ≡ record before { link = after.link; send_faults = after.send_faults }
