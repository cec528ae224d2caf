use Rattle.std.proofs.Common.{sym, subst}
use Rattle.std.specs.Prelude.{IfErr}
use Rattle.peer_keys.specs.declared.peers.LogoutPeer.{LogoutPeer}
use Rattle.provider_config.specs.declared.hub_config.HubFile.{HubFile}
use Rattle.provider_config.specs.declared.hub_config.HubFile.TheVariants.{Peer}
use Rattle.sp_setup.specs.Faults.{IsFaultOf}
use Rattle.sp_setup.specs.Files.{only}
use Rattle.sp_setup.proofs.Telling.{handed_on, first_fails}
use Rattle.idp_setup.specs.Setup.{peer_of, with_peer}
use Rattle.hub_setup.specs.Setup.{load}
use Rattle.hub_setup.proofs.loaded.Loaded.load.Goals as goal

pub returns-in_err-peer-in-Peer-clause-err : goal.returns-in_err-peer-in-Peer-clause-err
returns-in_err-peer-in-Peer-clause-err g c =
    let held = g.F.Files.holds c.args.files.now in
    let loaded = c.args.self.now in
    let names = c.in-Peer.names in
    let before = g.F.Files.faults_of c.args.files.now in
    let now = g.F.Files.faults_of c.read_peer_files.new.files in
    subst (λ (named : HubFile). IfErr c.from_residual-in_err-peer-in-Peer.result (IsFaultOf ((load named loaded).fails held) before now)) (sym c.in-Peer.is)
    (handed_on (IsFaultOf ((load (Peer names) loaded).fails held) before now) c.from_residual-in_err-peer-in-Peer.result
    c.in_err-peer-in-Peer.field-0.0 c.from_residual-in_err-peer-in-Peer.ensures.1
    (first_fails held (peer_of names) (λ (peer : LogoutPeer). only (record loaded { read = with_peer names.line peer loaded.read })) before now c.in_err-peer-in-Peer.field-0.0
    c.in_err-peer-in-Peer.ensures.err))
