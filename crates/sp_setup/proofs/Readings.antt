-- Where it is told what files there are, reading some of them comes to one thing.
use Rattle.std.proofs.Common.{◌≡◌, ◌≢◌, ℕ, ◌<◌, ◌≤◌, List, [], ◌∷◌, length, Option, None, Some, IsSomeAnd, Result, Ok, Err, inl, inr, refl, sym, ap, ◌∙◌, subst, arith}
use Rattle.xml_spec.specs.Tree.{Nodes, IsWithinLimits}
use Rattle.xml_spec.specs.Names.{HasNames}
use Rattle.xml_spec.specs.Identifiers.{IsSingle}
use Rattle.xml_spec.specs.declared.TheConstants.{MAX_DOCUMENT_LENGTH}
use Rattle.xml_spec.proofs.Documents.{one_tree}
use Rattle.saml_tree.specs.Documents.{IsSpelled}
use Rattle.saml_tree.specs.Documents as trees
use Rattle.saml_tree.specs.declared.node.TreeFault.{TreeFault}
use Rattle.saml_tree.specs.declared.node.TreeFault.TheVariants as tree_faults
use Rattle.saml_outside.specs.Files.{File, bytes_of, Reads, IsUnread}
use Rattle.saml_outside.specs.declared.reading.FileRead.TheVariants as reads
use Rattle.metadata.specs.Faults.{fault_of, IsRead, IsRefused}
use Rattle.metadata.specs.Metadata.{peer_of}
use Rattle.metadata.specs.declared.fault.MetaFault.{MetaFault}
use Rattle.metadata.specs.declared.fault.MetaFault.TheVariants as faults
use Rattle.metadata.specs.declared.peer.Peer.{Peer}
use Rattle.metadata.specs.declared.peer.Role.{Role}
use Rattle.sp_setup.specs.declared.limits.TheConstants.{LEAST_KEY, GREATEST_KEY, ID_KEY}
use Rattle.sp_setup.specs.Files.{Reading, whole, judged, only, known, no_line, ◌>>=◌, in_order, file_of, text_of, IsKey, key_file, id_key_file, IsDescribed, metadata_file}

-- it comes to one thing
pub record ComesToOne {X : Type 0} (files : List File) (reading : Reading X) : Type 0 where
  pub one : (x y : X) → reading.gives (Some files) x → reading.gives (Some files) y → x ≡ y
  pub never_both : (x : X) (file : List ℕ) (line : ℕ) → reading.gives (Some files) x → reading.fails (Some files) file line → ⊥
  pub first : (file other : List ℕ) (line number : ℕ) → reading.fails (Some files) file line → reading.fails (Some files) other number →
      (file ≡ other) × (line ≡ number)

-- one thing is said
abbrev pub SaysOne : {X : Type 0} → (Result X ℕ → Type 0) → Type 0
SaysOne {X} IsSaid = (one other : Result X ℕ) → IsSaid one → IsSaid other → one ≡ other

ok_one : {X E : Type 0} (r : Result X E) (one other : X) → r ≡ Ok one → r ≡ Ok other → one ≡ other
ok_one r one other e h = cc

err_one : {X E : Type 0} (r : Result X E) (one other : E) → r ≡ Err one → r ≡ Err other → one ≡ other
err_one r one other e h = cc

not_both : {X E : Type 0} (r : Result X E) (x : X) (e : E) → r ≡ Ok x → r ≡ Err e → ⊥
not_both r x e one other = cc

some_one : {X : Type 0} (o : Option X) (one other : X) → o ≡ Some one → o ≡ Some other → one ≡ other
some_one o one other e h = cc

none_or_some : {X : Type 0} (o : Option X) (x : X) → o ≡ None → o ≡ Some x → ⊥
none_or_some o x e h = cc

-- ---- a file

same_bytes : (files : List File) (name : List ℕ) (limit : ℕ) (one other : List ℕ) →
    Reads (Some files) name limit reads.Whole one → Reads (Some files) name limit reads.Whole other → one ≡ other
same_bytes files name limit one other a b = let both : Some one ≡ Some other = sym a.1 ∙ b.1 in cc

not_too_long : (found : Option (List ℕ)) (bytes : List ℕ) (limit : ℕ) → found ≡ Some bytes → length bytes ≤ limit →
    IsSomeAnd found (λ b. limit < length b) → ⊥
not_too_long None bytes limit e fits long = cc
not_too_long (Some b) bytes limit e fits long = let is : b ≡ bytes = cc in omega (arith, ap length is, fits, long)

read_or_not : (files : List File) (name : List ℕ) (limit : ℕ) (bytes : List ℕ) →
    Reads (Some files) name limit reads.Whole bytes → IsUnread (Some files) name limit → ⊥
read_or_not files name limit bytes r (inl absent) = let e : Some bytes ≡ None = sym r.1 ∙ absent.1 in cc
read_or_not files name limit bytes r (inr long) = not_too_long (bytes_of files name) bytes limit r.1 r.0 long.1

pub one_whole : (files : List File) (limit : ℕ) (name : List ℕ) → ComesToOne files (whole limit name)
one_whole files limit name = record {
  one = λ x y h k. same_bytes files name limit x y h k;
  never_both = λ x file line h k. read_or_not files name limit x h k.2;
  first = λ file other line number h k. (h.0 ∙ sym k.0, h.1 ∙ sym k.1);
}

pub one_judged : {X : Type 0} (files : List File) (name : List ℕ) (IsSaid : Result X ℕ → Type 0) → SaysOne IsSaid → ComesToOne files (judged name IsSaid)
one_judged files name IsSaid same = record {
  one = λ x y h k. ok_one (Ok x) x y refl (same (Ok x) (Ok y) h k);
  never_both = λ x file line h k. not_both (Ok x) x line refl (same (Ok x) (Err line) h k.1);
  first = λ file other line number h k. (h.0 ∙ sym k.0, err_one (Err line) line number refl (same (Err line) (Err number) h.1 k.1));
}

-- ---- no file

pub one_only : {X : Type 0} (files : List File) (x : X) → ComesToOne files (only x)
one_only files x = record {
  one = λ y z h k. h ∙ sym k;
  never_both = λ y file line h none. none;
  first = λ file other line number none k. absurd none;
}

pub one_known : {X : Type 0} (files : List File) (found : Option X) → ComesToOne files (known found)
one_known files found = record {
  one = λ x y h k. some_one found x y h k;
  never_both = λ x file line h none. none;
  first = λ file other line number none k. absurd none;
}

pub one_no_line : (files : List File) (name : List ℕ) (bad : Option ℕ) → ComesToOne files (no_line name bad)
one_no_line files name bad = record {
  one = λ x y h k. refl;
  never_both = λ x file line h k. none_or_some bad line h k.1;
  first = λ file other line number h k. (h.0 ∙ sym k.0, some_one bad line number h.1 k.1);
}

-- ---- one after the other

module _ {X Y : Type 0} (files : List File) (before : Reading X) (next : X → Reading Y) (ones : ComesToOne files before)
    (each : (x : X) → ComesToOne files (next x)) where
  both_give : (x y : Y) → (before >>= next).gives (Some files) x → (before >>= next).gives (Some files) y → x ≡ y
  both_give x y h k =
      (each k.0).one x y (subst (λ (z : X). (next z).gives (Some files) x) (ones.one h.0 k.0 h.1 k.1) h.2) k.2

  give_and_fail : (x : Y) (file : List ℕ) (line : ℕ) → (before >>= next).gives (Some files) x → (before >>= next).fails (Some files) file line → ⊥
  give_and_fail x file line h (inl bad) = ones.never_both h.0 file line h.1 bad
  give_and_fail x file line h (inr bad) =
      (each bad.0).never_both x file line (subst (λ (z : X). (next z).gives (Some files) x) (ones.one h.0 bad.0 h.1 bad.1) h.2) bad.2

  both_fail : (file other : List ℕ) (line number : ℕ) → (before >>= next).fails (Some files) file line →
      (before >>= next).fails (Some files) other number → (file ≡ other) × (line ≡ number)
  both_fail file other line number (inl a) (inl b) = ones.first file other line number a b
  both_fail file other line number (inl a) (inr b) = absurd (ones.never_both b.0 file line b.1 a)
  both_fail file other line number (inr a) (inl b) = absurd (ones.never_both a.0 other number a.1 b)
  both_fail file other line number (inr a) (inr b) =
      (each b.0).first file other line number
      (subst (λ (z : X). (next z).fails (Some files) file line) (ones.one a.0 b.0 a.1 b.1) a.2) b.2

  pub one_then : ComesToOne files (before >>= next)
  one_then = record { one = both_give; never_both = give_and_fail; first = both_fail }

-- what is made of what was read
pub one_made : {X Y : Type 0} (files : List File) (before : Reading X) (make : X → Y) → ComesToOne files before →
    ComesToOne files (before >>= λ x. only (make x))
one_made files before make ones = one_then files before (λ x. only (make x)) ones (λ x. one_only files (make x))

pub one_in_order : {L X : Type 0} (files : List File) (of_line : L → X → Reading X) →
    ((line : L) (before : X) → ComesToOne files (of_line line before)) → (lines : List L) (before : X) → ComesToOne files (in_order of_line lines before)
one_in_order files of_line each [] before = one_only files before
one_in_order files of_line each (line ∷ others) before =
    one_then files (of_line line before) (λ middle. in_order of_line others middle) (each line before)
    (λ middle. one_in_order files of_line each others middle)

-- ---- what files say

pub one_file : {X : Type 0} (files : List File) (limit : ℕ) (IsSaid : List ℕ → Result X ℕ → Type 0) (name : List ℕ) →
    ((bytes : List ℕ) → SaysOne (IsSaid bytes)) → ComesToOne files (file_of limit IsSaid name)
one_file files limit IsSaid name same =
    one_then files (whole limit name) (λ bytes. judged name (IsSaid bytes)) (one_whole files limit name)
    (λ bytes. one_judged files name (IsSaid bytes) (same bytes))

pub one_text : {X : Type 0} (files : List File) (limit : ℕ) (says : List ℕ → Result X ℕ) (name : List ℕ) → ComesToOne files (text_of limit says name)
one_text files limit says name = one_file files limit (λ bytes said. says bytes ≡ said) name (λ bytes one other h k. sym h ∙ k)

same_key : (AreEnough : ℕ → Type 0) (bytes : List ℕ) (one other : Result (List ℕ) ℕ) → IsKey AreEnough bytes one → IsKey AreEnough bytes other → one ≡ other
same_key AreEnough bytes (Ok x) (Ok y) h k = ap Ok (h.0 ∙ sym k.0)
same_key AreEnough bytes (Ok x) (Err line) h k = absurd (k.1 h.1)
same_key AreEnough bytes (Err line) (Ok y) h k = absurd (h.1 k.1)
same_key AreEnough bytes (Err line) (Err number) h k = ap Err (h.0 ∙ sym k.0)

pub one_key : (files : List File) (name : List ℕ) → ComesToOne files (key_file name)
one_key files name = one_file files GREATEST_KEY (IsKey (λ count. LEAST_KEY ≤ count)) name (same_key (λ count. LEAST_KEY ≤ count))

pub one_id_key : (files : List File) (name : List ℕ) → ComesToOne files (id_key_file name)
one_id_key files name = one_file files GREATEST_KEY (IsKey (λ count. count ≡ ID_KEY)) name (same_key (λ count. count ≡ ID_KEY))

-- ---- metadata

same_said : (text : List ℕ) (role : Role) (one other : Result Peer MetaFault) → IsRead text role one → IsRead text role other → one ≡ other
same_said text role one other a b =
    sym a.is ∙ ap (λ (tree : Nodes). peer_of tree 0 role) (one_tree text a.tree b.tree a.spelled.spells b.spelled.spells) ∙ b.is

one_peer : (text : List ℕ) (role : Role) (one other : Peer) → IsRead text role (Ok one) → IsRead text role (Ok other) → one ≡ other
one_peer text role one other a b = ok_one (Ok one) one other refl (same_said text role (Ok one) (Ok other) a b)

no_fault : (text : List ℕ) (role : Role) (peer : Peer) (fault : MetaFault) → IsRead text role (Ok peer) → IsRead text role (Err fault) → ⊥
no_fault text role peer fault a b = not_both (Ok peer) peer fault refl (same_said text role (Ok peer) (Err fault) a b)

spelled_not_refused : (text : List ℕ) (tree : Nodes) (fault : TreeFault) → IsSpelled text tree → fault ≢ tree_faults.NoMemory → trees.IsRefused text fault → ⊥
spelled_not_refused text tree tree_faults.BadXml s differs r = r tree s.spells
spelled_not_refused text tree tree_faults.XmlLimit s differs r = r.2 (subst IsWithinLimits (one_tree text tree r.0 s.spells r.1) s.limits)
spelled_not_refused text tree tree_faults.BadNames s differs r = r.3 (subst HasNames (one_tree text tree r.0 s.spells r.1) s.names)
spelled_not_refused text tree tree_faults.DuplicateId s differs r = r.4 (subst IsSingle (one_tree text tree r.0 s.spells r.1) s.single)
spelled_not_refused text tree tree_faults.NoMemory s differs r = differs refl

read_not_refused : (text : List ℕ) (role : Role) (peer : Peer) (fault : MetaFault) → fault_of fault ≡ Some fault →
    IsRead text role (Ok peer) → IsRefused text role fault → ⊥
read_not_refused text role peer (faults.Tree fault) e a r = spelled_not_refused text a.tree fault a.spelled r.0 r.1
read_not_refused text role peer faults.WrongShape e a r = no_fault text role peer faults.WrongShape a r
read_not_refused text role peer faults.NoPostService e a r = no_fault text role peer faults.NoPostService a r
read_not_refused text role peer faults.NoMemory e a r = cc

same_described : (role : Role) (bytes : List ℕ) (one other : Result Peer ℕ) → IsDescribed role bytes one → IsDescribed role bytes other → one ≡ other
same_described role bytes (Ok x) (Ok y) h k = ap Ok (one_peer bytes role x y h k)
same_described role bytes (Ok x) (Err line) h k = absurd (read_not_refused bytes role x k.1.0 k.1.1 h k.1.2)
same_described role bytes (Err line) (Ok y) h k = absurd (read_not_refused bytes role y h.1.0 h.1.1 k h.1.2)
same_described role bytes (Err line) (Err number) h k = ap Err (h.0 ∙ sym k.0)

pub one_metadata : (files : List File) (role : Role) (name : List ℕ) → ComesToOne files (metadata_file role name)
one_metadata files role name = one_file files MAX_DOCUMENT_LENGTH (IsDescribed role) name (same_described role)
