-- What became of a call that ended well.
use Rattle.std.specs.Prelude.{Result, Ok, Err, OnOk}
use Rattle.std.proofs.Common.{◌∙◌, ap}
use Rattle.post_agent.specs.declared.site.Site.{Site}
use Rattle.post_agent.specs.declared.site.Site.TheVariants.{Sp, Idp}
use Rattle.schedule_replay.specs.declared.host.HeldHost.{HeldHost}
use Rattle.schedule_replay.specs.declared.stage.Stage.{Stage}
use Rattle.schedule_replay.specs.declared.tally.Tally.{Tally}
use Rattle.schedule_replay.specs.Deployments.{Deployment, OnSite}
use Rattle.serve_loop.specs.Worlds.{NodeRules}
use Rattle.schedule_replay.specs.Hosts.{Host}
use Rattle.schedule_replay.specs.Views.{SameHost, SameStage}

pub where_ok : {T E A B : Type 0} (result : Result T E) → OnOk result A → (A → B) → OnOk result B
where_ok (Ok x) is then = then is
where_ok (Err e) is then = tt

-- the same objects all along
pub same_host : {N : Type 0} (old mid new : HeldHost N) → SameHost old mid → SameHost mid new → SameHost old new
same_host old mid new first second = record { node = second.node ∙ first.node; disk = second.disk ∙ first.disk }

pub same_stage : {S P : Type 0} (old mid new : Stage S P) → SameStage old mid → SameStage mid new → SameStage old new
same_stage old mid new first second = record {
  sp = same_host old.sp mid.sp new.sp first.sp second.sp;
  idp = same_host old.idp mid.idp new.idp first.idp second.idp;
}

-- what is done at one node is done there too where more was counted before
pub counted_on : {S P : Type 0} (sp : NodeRules S) (idp : NodeRules P) (site : Site) (does : (N : Type 0) → NodeRules N → Host N → Host N → Type 0)
    (more : Tally → Tally) (before behind : Deployment S P) → OnSite sp idp site does before behind
    → OnSite sp idp site does (record before { tally = more before.tally }) (record behind { tally = more behind.tally })
counted_on sp idp Sp does more before behind (did, is) = (did, ap (λ (w : Deployment _ _). record w { tally = more w.tally }) is)
counted_on sp idp Idp does more before behind (did, is) = (did, ap (λ (w : Deployment _ _). record w { tally = more w.tally }) is)
