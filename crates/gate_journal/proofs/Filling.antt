-- What a file under way holds, and what it would hold with its commit.
use Rattle.std.specs.Prelude.{slice_index, Some, Ok}
use Rattle.std.proofs.Common.{◌≡◌, inl, inr, suc, ℕ, ◌+◌, ◌^◌, ◌<◌, ◌≤◌, List, [], ◌∷◌, ◌++◌, length, take, drop, get_or, refl, sym, ◌∙◌, ap, subst, arith, length-drop, length-take, length-append, get_or-drop, get_or-take}
use Rattle.std.specs.Int.{w32, w64, from_be_bytes, to_be_bytes}
use Rattle.std.proofs.lemmas.List.{ext_get_or, append-nil, append_assoc, drop_all, drop_at, drop-drop, take_all, drop-append-le, take-append-le, get_or_append_left}
use Rattle.std.proofs.lemmas.Nat.{from_be_bytes-to_be_bytes_8}
use Rattle.crash_disk.specs.declared.file_no.FileNo.{FileNo}
use Rattle.crash_disk.specs.declared.file_no.FileNo.TheVariants.{Zero, One}
use Rattle.crash_disk.specs.declared.change.Change.TheVariants.{Write}
use Rattle.crash_disk.specs.Disk.{Image, FileState, DiskState, MayLeave, file_of as state_of_file, reads_of, overwritten, after}
use Rattle.crash_disk.specs.Torn.{IsOutside-push, IsQuiet, only-quiet, reads-write}
use Rattle.gate_journal.specs.declared.header.Header.{Header}
use Rattle.gate_journal.specs.Format.{letters, number_at, header_of, payloads_of, payloads_from, longest_payload, file_of, gate_of, bodies_of}
use Rattle.gate_journal.specs.Journal.{Fits}
use Rattle.gate_journal.specs.Making.{IsBlankBeside, IsFilling, IsWritten, IsUnderWay, IsWritable, with_commit, fields_bytes}
use Rattle.gate_journal.proofs.Anew.{write-state}
use Rattle.gate_journal.proofs.Bodies.{length-bodies, bodies_read}
use Rattle.gate_journal.proofs.Commits.{closed_left}
use Rattle.gate_journal.proofs.Files.{committed-from}

same_header : (a b : Header) → a.generation ≡ b.generation → a.horizon ≡ b.horizon → a.next ≡ b.next → a ≡ b
same_header a b generation horizon next =
    ap (λ (x : ℕ). record { generation = x; horizon = a.horizon; next = a.next }) generation
    ∙ ap (λ (x : ℕ). record { generation = b.generation; horizon = x; next = a.next }) horizon
    ∙ ap (λ (x : ℕ). record { generation = b.generation; horizon = b.horizon; next = x }) next

-- a text whose bytes 8 to 70 are the fields of a header
module _ (bytes : List ℕ) (header : Header) (gate : ℕ) (long : 72 ≤ length bytes) (short : length bytes ≤ 134217728) (letters_are : take 7 (drop 1 bytes) ≡ letters)
    (fields : take 63 (drop 8 bytes) ≡ fields_bytes header gate) where
  -- bytes of the fields, in the committed text
  field : (k : ℕ) → k < 63 → get_or (with_commit bytes) (8 + k) 0 ≡ get_or (fields_bytes header gate) k 0
  field k low =
      let same : 8 + k ≡ suc (7 + k) = omega arith in
      let plus : 1 + (7 + k) ≡ 8 + k = omega arith in
      rw same (get_or-drop 1 bytes (7 + k) 0) ∙ ap (λ (i : ℕ). get_or bytes i 0) plus ∙ sym (get_or-drop 8 bytes k 0) ∙ sym (get_or-take 63 (drop 8 bytes) k 0 low) ∙ ap (λ (b : List ℕ). get_or b k 0) fields

  pub gate_there : get_or (with_commit bytes) 70 0 ≡ gate
  gate_there = field 62 (omega arith)

  part : (k : ℕ) → k + 8 ≤ 63 → take 8 (drop (8 + k) (with_commit bytes)) ≡ take 8 (drop k (fields_bytes header gate))
  part k low =
      let dropped = length-drop 1 bytes in
      let a = length-drop (8 + k) (with_commit bytes) in
      let b = length-drop k (fields_bytes header gate) in
      let c = length-take 8 (drop (8 + k) (with_commit bytes)) in
      let d = length-take 8 (drop k (fields_bytes header gate)) in
      ext_get_or 0 (take 8 (drop (8 + k) (with_commit bytes))) (take 8 (drop k (fields_bytes header gate))) (omega arith) (λ i le.
      get_or-take 8 (drop (8 + k) (with_commit bytes)) i 0 (omega arith) ∙ get_or-drop (8 + k) (with_commit bytes) i 0
      ∙ (let plus : 8 + k + i ≡ 8 + (k + i) = omega arith in ap (λ (j : ℕ). get_or (with_commit bytes) j 0) plus) ∙ field (k + i) (omega arith)
      ∙ sym (get_or-take 8 (drop k (fields_bytes header gate)) i 0 (omega arith) ∙ get_or-drop k (fields_bytes header gate) i 0))

  -- the text, committed, holds what its payloads are
  pub holds_fields : (payloads : List (List ℕ)) → header.generation < 2 ^ 64 → header.horizon < 2 ^ 64 → header.next < 2 ^ 64 → payloads_of (longest_payload 2) (with_commit bytes) ≡ Ok payloads
      → file_of (with_commit bytes) ≡ Ok (Some (record { version = 2; header = header; payloads = payloads }))
  holds_fields payloads generation horizon next reads =
      let dropped = length-drop 1 bytes in
      let g : number_at (with_commit bytes) 8 ≡ header.generation = ap (from_be_bytes w64) (part 0 (omega arith)) ∙ from_be_bytes-to_be_bytes_8 header.generation generation in
      let h : number_at (with_commit bytes) 16 ≡ header.horizon = ap (from_be_bytes w64) (part 8 (omega arith)) ∙ from_be_bytes-to_be_bytes_8 header.horizon horizon in
      let n : number_at (with_commit bytes) 24 ≡ header.next = ap (from_be_bytes w64) (part 16 (omega arith)) ∙ from_be_bytes-to_be_bytes_8 header.next next in
      committed-from (with_commit bytes) (record { version = 2; header = header; payloads = payloads }) (record {
        head = record { long = omega arith; letters_are = letters_are; short = omega arith };
        commit = refl;
        version_is = sym (field 24 (omega arith));
        header_is = same_header header (header_of (with_commit bytes)) (sym g) (sym h) (sym n);
        one_of = inr refl;
        short = omega arith;
        not_last = λ one. absurd (omega arith);
        payloads_are = reads;
      })

-- a file that is under way holds no journal
pub underway_blank : (file : FileNo) (bytes other : List ℕ) (disk : DiskState) → IsUnderWay file bytes other disk → (image : Image) → MayLeave disk image → IsBlankBeside file other image
underway_blank Zero bytes other disk is image may = closed_left Zero bytes other image is.long is.letters_are is.closed (omega (arith, is.least, may.zero.no_shorter)) (omega (arith, is.greatest, may.zero.no_longer))
    (λ i le. may.zero.elsewhere i (omega (arith, is.least)) (is.outside i le) ∙ is.same i le) (only-quiet disk.one image.one is.other_quiet may.one ∙ is.beside)
underway_blank One bytes other disk is image may = closed_left One bytes other image is.long is.letters_are is.closed (omega (arith, is.least, may.one.no_shorter)) (omega (arith, is.greatest, may.one.no_longer))
    (λ i le. may.one.elsewhere i (omega (arith, is.least)) (is.outside i le) ∙ is.same i le) (only-quiet disk.zero image.zero is.other_quiet may.zero ∙ is.beside)

-- a file under way whose fields are written and whose payloads are known is all but committed
pub underway_written : (file : FileNo) (bytes other : List ℕ) (disk : DiskState) (header : Header) (gate : ℕ) (payloads : List (List ℕ)) → IsUnderWay file bytes other disk → length bytes ≤ 134217728 → take 63 (drop 8 bytes) ≡ fields_bytes header gate
    → header.generation < 2 ^ 64 → header.horizon < 2 ^ 64 → header.next < 2 ^ 64 → payloads_of (longest_payload 2) (with_commit bytes) ≡ Ok payloads
    → IsWritten file (record { version = 2; header = header; payloads = payloads }) other disk
underway_written file bytes other disk header gate payloads is short fields generation horizon next reads = record {
  blank = underway_blank file bytes other disk is;
  other_quiet = is.other_quiet;
  closed = λ one. is.closed (sym (ap (λ (b : List ℕ). get_or b 0 0) is.reads) ∙ one);
  holds_with = ap (λ (b : List ℕ). file_of (with_commit b)) is.reads ∙ holds_fields bytes header gate is.long short is.letters_are fields payloads generation horizon next reads;
}

-- a text behind what a file reads
overwritten_end : (bytes more : List ℕ) (at : ℕ) → at ≡ length bytes → overwritten bytes at more ≡ bytes ++ more
overwritten_end bytes more at is =
    let front : take at bytes ≡ bytes = take_all at bytes (omega arith) in
    let behind : drop (at + length more) bytes ≡ [] = drop_all (at + length more) bytes (omega arith) in
    ap (λ (l : List ℕ). l ++ more ++ drop (at + length more) bytes) front ∙ ap (λ (l : List ℕ). (bytes ++ more) ++ l) behind ∙ append-nil (bytes ++ more)

-- a file under way stays so while a text is written behind it
pub underway_more : (file : FileNo) (bytes more other : List ℕ) (at : ℕ) (disk : DiskState) → at ≡ length bytes → at + length more ≤ 134217728 → IsUnderWay file bytes other disk
    → IsUnderWay file (bytes ++ more) other (after (Write file at more) disk)
underway_more file bytes more other at disk at_is fits is =
    let state = write-state disk file at more in
    let long = is.long in
    let longer = length-append bytes more in
    let least = is.least in
    let greatest = is.greatest in
    let reads : overwritten (reads_of disk file) at more ≡ bytes ++ more = ap (λ (b : List ℕ). overwritten b at more) is.reads ∙ overwritten_end bytes more at at_is in
    let new_long : length (overwritten (reads_of disk file) at more) ≡ length bytes + length more = ap length reads ∙ longer in
    record {
      least = rw state (omega arith);
      greatest = rw state (omega arith);
      outside = λ i le. rw state (IsOutside-push i (state_of_file disk file).written (record { start = at; end = at + length more }) (is.outside i le) (inl (omega arith)));
      same = λ i le. rw state (is.same i le ∙ sym (get_or_append_left bytes more 0 i (omega arith)));
      long = omega arith;
      closed = λ one. is.closed (sym (get_or_append_left bytes more 0 0 (omega arith)) ∙ one);
      letters_are = ap (take 7) (drop-append-le 1 bytes more (omega arith)) ∙ take-append-le 7 (drop 1 bytes) more (omega (arith, length-drop 1 bytes)) ∙ is.letters_are;
      reads = (reads-write disk file at more).0 ∙ reads;
      other_quiet = subst IsQuiet (sym (reads-write disk file at more).1) is.other_quiet;
      beside = ap (λ (f : FileState). f.reads) (reads-write disk file at more).1 ∙ is.beside;
    }

pub filling_more : (file : FileNo) (fields text more other : List ℕ) (at : ℕ) (disk : DiskState) → at ≡ 72 + length text → at + length more ≤ 134217728 → IsFilling file fields text other disk
    → IsFilling file fields (text ++ more) other (after (Write file at more) disk)
filling_more file fields text more other at disk at_is fits is =
    let long = is.long in
    let place : at ≡ length (is.head ++ text) = omega (arith, length-append is.head text) in
    record {
      head = is.head;
      long = is.long;
      fields_are = is.fields_are;
      under = subst (λ (b : List ℕ). IsUnderWay file b other (after (Write file at more) disk)) (append_assoc is.head text more) (underway_more file (is.head ++ text) more other at disk place fits is.under);
    }

pub filling_blank : (file : FileNo) (fields text other : List ℕ) (disk : DiskState) → IsFilling file fields text other disk → (image : Image) → MayLeave disk image → IsBlankBeside file other image
filling_blank file fields text other disk is = underway_blank file (is.head ++ text) other disk is.under

pub filling_reads : (file : FileNo) (fields text other : List ℕ) (disk : DiskState) → IsFilling file fields text other disk → length (reads_of disk file) ≡ 72 + length text
filling_reads file fields text other disk is = let long = is.long in ap length is.under.reads ∙ omega (arith, length-append is.head text)

-- a file to which a header and all bodies were written is all but committed
pub filled_written : (file : FileNo) (fields other : List ℕ) (disk : DiskState) (header : Header) (payloads : List (List ℕ)) → fields ≡ fields_bytes header (gate_of payloads) → Fits payloads → IsWritable header
    → IsFilling file fields (bodies_of payloads) other disk → IsWritten file (record { version = 2; header = header; payloads = payloads }) other disk
filled_written file fields other disk header payloads fields_are fits writable is =
    let text = bodies_of payloads in
    let bytes = is.head ++ text in
    let head_long = is.long in
    let whole = length-append is.head text in
    let sized = length-bodies payloads in
    let file_fits = fits.file in
    let short : length bytes ≤ 134217728 = omega arith in
    let dropped = length-drop 8 is.head in
    let fields_there : take 63 (drop 8 bytes) ≡ fields_bytes header (gate_of payloads) =
    ap (take 63) (drop-append-le 8 is.head text (omega arith)) ∙ take-append-le 63 (drop 8 is.head) text (omega arith) ∙ is.fields_are ∙ fields_are in
    let behind : drop 72 (with_commit bytes) ≡ text ++ [] = drop-drop 71 1 bytes ∙ drop_at is.head text 72 head_long ∙ sym (append-nil text) in
    let gate : slice_index (with_commit bytes) 70 ≡ gate_of payloads = gate_there bytes header (gate_of payloads) (omega arith) short is.under.letters_are fields_there in
    let reads : payloads_of (longest_payload 2) (with_commit bytes) ≡ Ok payloads =
    ap (λ (g : ℕ). payloads_from (longest_payload 2) 72 g (drop 72 (with_commit bytes))) gate ∙ ap (payloads_from (longest_payload 2) 72 (gate_of payloads)) behind
    ∙ bodies_read (longest_payload 2) 72 payloads [] (omega arith) fits.each in
    underway_written file bytes other disk header (gate_of payloads) payloads is.under short fields_there writable.generation writable.horizon writable.next reads

-- one body more is written
module _ (front : List ℕ) (left : List (List ℕ)) (records : List (List ℕ)) (record_ : List ℕ) (rest : List (List ℕ)) (body : List ℕ) (so_far : front ++ bodies_of left ≡ bodies_of records) (left_is : left ≡ record_ ∷ rest)
    (body_is : body ≡ to_be_bytes w32 (length record_) ++ record_ ++ gate_of rest ∷ []) where
  body_more : body ++ bodies_of rest ≡ bodies_of left
  body_more =
      ap (λ (b : List ℕ). b ++ bodies_of rest) body_is ∙ ap (λ (l : List ℕ). to_be_bytes w32 (length record_) ++ l) (append_assoc record_ (gate_of rest ∷ []) (bodies_of rest)) ∙ ap bodies_of (sym left_is)

  pub text_more : (front ++ body) ++ bodies_of rest ≡ bodies_of records
  text_more = append_assoc front body (bodies_of rest) ∙ ap (λ (l : List ℕ). front ++ l) body_more ∙ so_far

  pub text_fits : (at : ℕ) → at ≡ 72 + length front → Fits records → at + length body ≤ 134217728
  text_fits at at_is fits =
      let file = fits.file in
      let all = ap length text_more in
      let parts = length-append (front ++ body) (bodies_of rest) in
      let first = length-append front body in
      omega (arith, length-bodies records)
