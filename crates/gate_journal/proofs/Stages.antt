-- What a crash may leave while a record is written.
use Rattle.std.specs.Prelude.{Some, Ok}
use Rattle.std.proofs.Common.{◌≡◌, ◌≢◌, ◌⊎◌, inl, inr, ℕ, ◌+◌, ◌<◌, ◌≤◌, max, List, [], ◌∷◌, ◌++◌, length, take, drop, get_or, refl, sym, ◌∙◌, ap, subst, arith, rules, length-append, length-drop, get_or-drop}
use Rattle.std.proofs.lemmas.List.{places, append_assoc, ext_get_or, drop_at, length-take-le}
use Rattle.std.proofs.lemmas.Bool.{cases_eq, cases_lt}
use Rattle.crash_disk.specs.declared.file_no.FileNo.{FileNo}
use Rattle.crash_disk.specs.declared.file_no.FileNo.TheVariants.{Zero, One}
use Rattle.crash_disk.specs.declared.change.Change.TheVariants.{Write, Sync}
use Rattle.crash_disk.specs.Disk.{Image, FileState, DiskState, MayLeave, image_of, content, file_of as state_of_file, reads_of, overwritten, after}
use Rattle.crash_disk.specs.Soundness.{length-overwritten, overwritten-below, overwritten-above}
use Rattle.crash_disk.specs.Torn.{Torn, IsQuiet, IsQuietDisk, other_file, quiet-disk, quiet_of, quiet-sync, torn-disk, reads-write, reads-sync}
use Rattle.gate_journal.specs.Format.{Committed, Kept, journal, file_of, longest_file, longest_payload, end_of, gate_place, body_of}
use Rattle.gate_journal.specs.Journal.{IsReadyFor, IsBeforeOrAfter, kept_with}
use Rattle.gate_journal.proofs.Files.{IsCommitted, committed-from, committed-inverse}
use Rattle.gate_journal.proofs.Appending.{end_within, gate_closed, gate_low, gate_high, still_holds, holds_more}
use Rattle.gate_journal.proofs.Standing.{IsOlder, Stands, stands-from, stands-to, older_same}

pub length-body : (payload : List ℕ) → length (body_of payload) ≡ length payload + 5
length-body payload = omega (arith, length-append payload (0 ∷ []))

-- what stands from the place of a write on
pub drop-overwritten : (file : List ℕ) (at : ℕ) (bytes : List ℕ) → at ≤ length file → drop at (overwritten file at bytes) ≡ bytes ++ drop (at + length bytes) file
drop-overwritten file at bytes le =
    ap (drop at) (append_assoc (take at file) bytes (drop (at + length bytes) file)) ∙ drop_at (take at file) (bytes ++ drop (at + length bytes) file) at (length-take-le at file le)

-- the image of a disk, at one of its files
pub content-image : (disk : DiskState) (file : FileNo) → content (image_of disk) file ≡ reads_of disk file
content-image disk Zero = refl
content-image disk One = refl

module _ (disk : DiskState) (reads : MayLeave disk (image_of disk)) (file : FileNo) (end gate : ℕ) (payload : List ℕ) (ready : IsReadyFor file end gate payload disk) where
  abbrev kept : Kept
  kept = ready.kept

  abbrev F : List ℕ
  F = reads_of disk file

  abbrev body : List ℕ
  body = body_of payload

  quiet : IsQuietDisk disk
  quiet = quiet-disk disk reads ready.settled

  stands : Stands (image_of disk) file kept.holds
  stands = subst (λ (f : FileNo). Stands (image_of disk) f kept.holds) (sym ready.file_is) (stands-from (image_of disk) kept ready.stands)

  committed : IsCommitted F kept.holds
  committed = committed-inverse F kept.holds (subst (λ (b : List ℕ). file_of b ≡ Ok (Some kept.holds)) (content-image disk file) stands.own)

  pub end_fits : end ≤ length F
  end_fits = omega (arith, ready.end_is, end_within F kept.holds committed)

  limit : longest_file kept.holds.version ≡ 134217728
  limit = ap longest_file ready.version

  -- an image whose file holds this and whose other file is as it was
  stands_with : (image : Image) (holds : Committed) → holds.header ≡ kept.holds.header → IsCommitted (content image file) holds → content image (other_file file) ≡ reads_of disk (other_file file)
      → journal image ≡ Ok (Some (record { file = kept.file; holds = holds }))
  stands_with image holds header is other =
      let old : IsOlder kept.holds (file_of (reads_of disk (other_file file))) = subst (λ (b : List ℕ). IsOlder kept.holds (file_of b)) (content-image disk (other_file file)) stands.older in
      let older : IsOlder holds (file_of (content image (other_file file))) = subst (λ (b : List ℕ). IsOlder holds (file_of b)) (sym other) (older_same holds kept.holds _ header old) in
      stands-to image file holds (record { own = committed-from (content image file) holds is; older = older }) ∙ ap (λ (f : FileNo). Ok (Some (record { file = f; holds = holds }))) ready.file_is

  -- the body is written behind the closed gate
  pub first_write : (image : Image) → MayLeave (after (Write file end body) disk) image → journal image ≡ Ok (Some kept)
  first_write image may =
      let parts = torn-disk disk file end body image quiet end_fits may in
      let torn = parts.0 in
      let sized = length-body payload in
      let at_end = ready.end_is in
      let low = torn.no_shorter in
      let high = torn.no_longer in
      let within = end_within F kept.holds committed in
      let short : length F ≤ 134217728 = committed.head.short in
      let fits = ready.fits in
      let same : (i : ℕ) → i < end_of kept.holds.payloads → get_or (content image file) i 0 ≡ get_or F i 0 = λ i le. torn.same i (omega arith) (inl (omega arith)) in
      let closed = gate_closed F kept.holds committed in
      let gate_same = same (gate_place kept.holds.payloads) (gate_high kept.holds.payloads) in
      stands_with image kept.holds refl (still_holds F kept.holds committed (content image file) (omega arith) (omega (arith, limit)) (λ i le differs. same i le) (λ one. closed (sym gate_same ∙ one))) parts.1

  -- the disk with the body, synced
  abbrev pub staged : DiskState
  staged = after (Sync file) (after (Write file end body) disk)

  other_quiet : IsQuiet (state_of_file (after (Write file end body) disk) (other_file file))
  other_quiet = subst IsQuiet (sym (reads-write disk file end body).1) (quiet_of disk (other_file file) quiet)

  pub staged_quiet : IsQuietDisk staged
  staged_quiet = quiet-sync (after (Write file end body) disk) file other_quiet

  abbrev G : List ℕ
  G = overwritten F end body

  pub staged_reads : reads_of staged file ≡ G
  staged_reads = (reads-sync (after (Write file end body) disk) file).0 ∙ (reads-write disk file end body).0

  staged_other : reads_of staged (other_file file) ≡ reads_of disk (other_file file)
  staged_other = ap (λ (f : FileState). f.reads) ((reads-sync (after (Write file end body) disk) file).1 ∙ (reads-write disk file end body).1)

  long_G : length G ≡ max (length F) (end + (length payload + 5))
  long_G = length-overwritten F end body end_fits ∙ ap (λ (n : ℕ). max (length F) (end + n)) (length-body payload)

  pub gate_fits : gate < length G
  gate_fits = let high = gate_high kept.holds.payloads in omega (arith, long_G, ready.gate_is, ready.end_is, high, end_fits)

  behind_G : drop end G ≡ body ++ drop (end + length body) F
  behind_G = drop-overwritten F end body end_fits

  -- an image whose file is torn at the gate alone
  gate_torn : (image : Image) → Torn gate 1 G (content image file) → content image (other_file file) ≡ reads_of disk (other_file file)
      → (get_or (content image file) gate 0 ≡ 1 → journal image ≡ Ok (Some (kept_with payload kept))) × (get_or (content image file) gate 0 ≢ 1 → journal image ≡ Ok (Some kept))
  gate_torn image torn other =
      let C = content image file in
      let ps = kept.holds.payloads in
      let at_end = ready.end_is in
      let at_gate = ready.gate_is in
      let below = gate_low ps in
      let above = gate_high ps in
      let low = torn.no_shorter in
      let high = torn.no_longer in
      let within = end_fits in
      let sized = long_G in
      let short : length F ≤ 134217728 = committed.head.short in
      let fits = ready.fits in
      let long_C : length C ≡ length G = omega arith in
      let same : (i : ℕ) → i < end_of ps → i ≢ gate_place ps → get_or C i 0 ≡ get_or F i 0 = λ i le differs.
      torn.same i (omega arith) (beyond i gate (λ at. differs (at ∙ at_gate))) ∙ overwritten-below F end body i (omega arith) (omega arith) in
      let dropped_C = length-drop end C in
      let dropped_G = length-drop end G in
      let tail : drop end C ≡ drop end G = ext_get_or 0 (drop end C) (drop end G) (omega arith) (λ i le.
      get_or-drop end C i 0 ∙ torn.same (end + i) (omega arith) (inr (omega arith)) ∙ sym (get_or-drop end G i 0)) in
      let long : end_of ps ≤ length C = omega arith in
      let limited : length C ≤ longest_file kept.holds.version = omega (arith, limit) in
      let longest : length payload ≤ longest_payload kept.holds.version = rw ready.version ready.longest in
      let gate_is : (v : ℕ) → get_or C gate 0 ≡ v → get_or C (gate_place ps) 0 ≡ v = λ v is. ap (λ (k : ℕ). get_or C k 0) (sym at_gate) ∙ is in
      let behind : drop (end_of ps) C ≡ body ++ drop (end + length body) F = ap (λ (k : ℕ). drop k C) (sym at_end) ∙ tail ∙ behind_G in (
        λ open_. stands_with image (record (kept.holds) { payloads = ps ++ payload ∷ [] }) refl (holds_more F kept.holds committed C long limited same payload (drop (end + length body) F) (gate_is 1 open_) behind longest) other,
        λ closed. stands_with image kept.holds refl (still_holds F kept.holds committed C long limited same (λ one. closed (ap (λ (k : ℕ). get_or C k 0) at_gate ∙ one))) other,
      )
    where
      beyond : (i g : ℕ) → i ≢ g → (i < g) ⊎ (g + 1 ≤ i)
      beyond i g differs = elim (cases_lt i g) [ inl less ↦ inl less | inr more ↦ inr (omega arith) ]

  -- the gate is opened in a write of its own
  pub second_write : (image : Image) → MayLeave (after (Write file gate (1 ∷ [])) staged) image → IsBeforeOrAfter payload kept image
  second_write image may =
      let fits = gate_fits in
      let parts = torn-disk staged file gate (1 ∷ []) image staged_quiet (omega (arith, ap length staged_reads)) may in
      let torn : Torn gate 1 G (content image file) = subst (λ (b : List ℕ). Torn gate 1 b (content image file)) staged_reads parts.0 in
      let by = gate_torn image torn (parts.1 ∙ staged_other) in
      elim (cases_eq (get_or (content image file) gate 0) 1) [ inl open_ ↦ inr (by.0 open_) | inr closed ↦ inl (by.1 closed) ]

  -- the disk with the open gate, synced
  abbrev pub written : DiskState
  written = after (Sync file) (after (Write file gate (1 ∷ [])) staged)

  pub written_quiet : IsQuietDisk written
  written_quiet = quiet-sync (after (Write file gate (1 ∷ [])) staged) file (subst IsQuiet (sym (reads-write staged file gate (1 ∷ [])).1) (quiet_of staged (other_file file) staged_quiet))

  pub written_stands : journal (image_of written) ≡ Ok (Some (kept_with payload kept))
  written_stands =
      let fits = gate_fits in
      let H = overwritten G gate (1 ∷ []) in
      let reads_H : content (image_of written) file ≡ H =
      content-image written file ∙ (reads-sync (after (Write file gate (1 ∷ [])) staged) file).0 ∙ (reads-write staged file gate (1 ∷ [])).0 ∙ ap (λ (b : List ℕ). overwritten b gate (1 ∷ [])) staged_reads in
      let other : content (image_of written) (other_file file) ≡ reads_of disk (other_file file) =
      content-image written (other_file file) ∙ ap (λ (f : FileState). f.reads) ((reads-sync (after (Write file gate (1 ∷ [])) staged) file).1 ∙ (reads-write staged file gate (1 ∷ [])).1) ∙ staged_other in
      let long : length H ≡ max (length G) (gate + 1) = length-overwritten G gate (1 ∷ []) (omega arith) in
      let torn : Torn gate 1 G H = record {
        no_shorter = omega arith;
        no_longer = omega arith;
        same = λ i inside beyond. elim beyond [ inl below ↦ overwritten-below G gate (1 ∷ []) i below inside | inr above ↦ overwritten-above G gate (1 ∷ []) i above inside ];
      } in
      let open_ : get_or H gate 0 ≡ 1 = search (rules, places) in
      (gate_torn (image_of written) (subst (λ (b : List ℕ). Torn gate 1 G b) (sym reads_H) torn) other).0 (ap (λ (b : List ℕ). get_or b gate 0) reads_H ∙ open_)
