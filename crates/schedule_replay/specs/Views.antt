-- How the code holds a deployment.
use Rattle.std.specs.Prelude.{◌≡◌, ℕ, Option, None, Some}
use Rattle.std.specs.BTreeMap.{BTreeMap, get}
use Rattle.std.specs.Option.{option_map, unwrap_or}
use Rattle.std.specs.Borrow.{Bor}
use Rattle.std.specs.Ordering.{nat_cmp}
use Rattle.crash_disk.specs.Memory.{state_of}
use Rattle.post_agent.specs.Agents.{fresh}
use Rattle.post_agent.specs.States.{State}
use Rattle.schedule_replay.specs.declared.host.HeldHost.{HeldHost}
use Rattle.schedule_replay.specs.declared.host.Reply.{Reply}
use Rattle.schedule_replay.specs.declared.sending.Sending.{Sending}
use Rattle.schedule_replay.specs.declared.stage.Stage.{Stage}
use Rattle.schedule_replay.specs.Deployments.{Deployment}
use Rattle.serve_loop.specs.Worlds.{NodeRules}
use Rattle.schedule_replay.specs.Hosts.{Host, Outcome, Silent, Sent}

-- what the agent of a name keeps: one that is not there has seen nothing
abbrev pub kept_by : BTreeMap ℕ State → ℕ → State
kept_by agents name = unwrap_or (get nat_cmp agents name) fresh

abbrev pub host_in : {N : Type 0} → HeldHost N → Host N
host_in held = record { node = held.node.now; disk = held.disk.now; kept = held.conns.now }

abbrev pub stage_in : {S P : Type 0} → Stage S P → Deployment S P
stage_in stage = record {
  clock = stage.clock;
  sp = host_in stage.sp;
  idp = host_in stage.idp;
  agents = kept_by stage.agents.now.seen;
  tally = stage.tally;
  lines = stage.lines.now.items;
}

-- it holds the same objects
pub record SameHost {N : Type 0} (old new : HeldHost N) : Type 0 where
  pub node : new.node.ghost_name ≡ old.node.ghost_name
  pub disk : new.disk.ghost_name ≡ old.disk.ghost_name

pub record SameStage {S P : Type 0} (old new : Stage S P) : Type 0 where
  pub sp : SameHost old.sp new.sp
  pub idp : SameHost old.idp new.idp

-- what is sent as a reply
abbrev pub outcome_view : Option Reply → Outcome
outcome_view None = Silent
outcome_view (Some reply) = Sent reply.path reply.bytes

-- the disk is the node's own
abbrev pub OwnsHost : {N : Type 0} → NodeRules N → Host N → Type 0
OwnsHost rules host = rules.own host.node (Some (state_of host.disk))

pub record OwnsBoth {S P : Type 0} (sp_rules : NodeRules S) (idp_rules : NodeRules P) (world : Deployment S P) : Type 0 where
  pub sp : OwnsHost sp_rules world.sp
  pub idp : OwnsHost idp_rules world.idp

-- a request, where there is one
abbrev pub sending_view : Option (Bor Sending) → Option Sending
sending_view sending = option_map (λ one. one.now) sending

-- the same nodes and disks
pub record HasNodes {S P : Type 0} (world other : Deployment S P) : Type 0 where
  pub sp : other.sp ≡ world.sp
  pub idp : other.idp ≡ world.idp
