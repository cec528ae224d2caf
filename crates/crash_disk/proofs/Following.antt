-- How a run of calls follows a plan.
use Rattle.std.specs.Prelude.{IfSome, IsSomeAnd, IsErrAnd, Result, Ok, Err}
use Rattle.std.specs.Option.{option_map}
use Rattle.std.proofs.Common.{◌≡◌, inl, inr, List, [], ◌∷◌, ◌++◌, Option, None, Some, refl, sym, ◌∙◌, ap, subst, append-nil}
use Rattle.crash_disk.specs.declared.change.Change.{Change}
use Rattle.crash_disk.specs.Disk.{Image, DiskState, MayLeave, image_of, Changes, after}
use Rattle.crash_disk.specs.Moments.{DiskShown, Leaves, Elapses, LeavesOnly}
use Rattle.crash_disk.specs.Plans.{after_all, IsBegun, IsCarriedOut, LeftAmid, Follows}
use Rattle.crash_disk.specs.Steps.{leaves_begun, started, goes_on, then, weaker}

-- ONE PLAN BEHIND ANOTHER

pub after_both : (first second : List Change) (disk : DiskState) → after_all (first ++ second) disk ≡ after_all second (after_all first disk)
after_both [] second disk = refl
after_both (change ∷ first) second disk = after_both first second (after change disk)

-- nothing was done yet
pub unbegun : (plan : List Change) (disk : DiskState) → IsBegun plan disk disk
unbegun [] disk = refl
unbegun (change ∷ plan) disk = inl refl

begun_first : (first second : List Change) (disk now : DiskState) → IsBegun first disk now → IsBegun (first ++ second) disk now
begun_first [] [] disk now is = is
begun_first [] (change ∷ second) disk now is = inl is
begun_first (change ∷ first) second disk now (inl is) = inl is
begun_first (change ∷ first) second disk now (inr (inl is)) = inr (inl is)
begun_first (change ∷ first) second disk now (inr (inr is)) = inr (inr (begun_first first second (after change disk) now is))

begun_second : (first second : List Change) (disk now : DiskState) → IsBegun second (after_all first disk) now → IsBegun (first ++ second) disk now
begun_second [] second disk now is = is
begun_second (change ∷ first) second disk now is = inr (inr (begun_second first second (after change disk) now is))

left_first : (first second : List Change) (disk : DiskState) (image : Image) → LeftAmid first disk image → LeftAmid (first ++ second) disk image
left_first [] [] disk image left = left
left_first [] (change ∷ second) disk image left = inl left
left_first (change ∷ first) second disk image (inl left) = inl left
left_first (change ∷ first) second disk image (inr (inl left)) = inr (inl left)
left_first (change ∷ first) second disk image (inr (inr left)) = inr (inr (left_first first second (after change disk) image left))

left_second : (first second : List Change) (disk : DiskState) (image : Image) → LeftAmid second (after_all first disk) image → LeftAmid (first ++ second) disk image
left_second [] second disk image left = left
left_second (change ∷ first) second disk image left = inr (inr (left_second first second (after change disk) image left))

carried_second : {T E : Type 0} (result : Result T E) (first second : List Change) (disk mid now : DiskState) → mid ≡ after_all first disk →
    IsCarriedOut result second mid now → IsCarriedOut result (first ++ second) disk now
carried_second (Ok x) first second disk mid now is done = done ∙ ap (after_all second) is ∙ sym (after_both first second disk)
carried_second (Err e) first second disk mid now is done =
    begun_second first second disk now (subst (λ d. IsBegun second d now) is done)

-- WHAT THE DISK TELLS

nothing_done : {T E : Type 0} (result : Result T E) (disk : DiskState) → IsCarriedOut result [] disk disk
nothing_done (Ok x) disk = refl
nothing_done (Err e) disk = refl

stays_told : {T E : Type 0} (result : Result T E) (told now : Option DiskState) → now ≡ told →
    IfSome told (λ disk. IsSomeAnd now (IsCarriedOut result [] disk))
stays_told result None now same = tt
stays_told result (Some disk) now same =
    subst (λ (o : Option DiskState). IsSomeAnd o (IsCarriedOut result [] disk)) (sym same) (nothing_done result disk)

one_done : {T E : Type 0} (change : Change) (result : Result T E) (told now : Option DiskState) → Changes change told result now →
    IfSome told (λ disk. IsSomeAnd now (IsCarriedOut result (change ∷ []) disk))
one_done change result None now is = tt
one_done change (Ok x) (Some disk) now is =
    subst (λ (o : Option DiskState). IsSomeAnd o (λ d. d ≡ after change disk)) (sym is) refl
one_done change (Err e) (Some disk) None is = absurd is
one_done change (Err e) (Some disk) (Some now) is = inr (inl is)

-- one plan was carried out, and then another one as far as the result says
joined : {T E : Type 0} (result : Result T E) (first second : DiskState → List Change) (told mid now : Option DiskState) →
    IfSome told (λ disk. IsSomeAnd mid (λ d. d ≡ after_all (first disk) disk)) → IfSome mid (λ d. IsSomeAnd now (IsCarriedOut result (second d) d)) →
    IfSome told (λ disk. IsSomeAnd now (IsCarriedOut result (first disk ++ second (after_all (first disk) disk)) disk))
joined result first second None mid now one two = tt
joined result first second (Some disk) None now one two = absurd one
joined result first second (Some disk) (Some mid) None one two = absurd two
joined result first second (Some disk) (Some mid) (Some now) one two =
    carried_second result (first disk) (second (after_all (first disk) disk)) disk mid now one
    (subst (λ d. IsCarriedOut result (second d) mid now) one two)

-- what is told where a plan was carried out and no more was done
stopped : (first second : DiskState → List Change) (told now : Option DiskState) → IfSome told (λ disk. IsSomeAnd now (λ d. d ≡ after_all (first disk) disk)) →
    IfSome told (λ disk. IsSomeAnd now (IsBegun (first disk ++ second disk) disk))
stopped first second None now one = tt
stopped first second (Some disk) None one = absurd one
stopped first second (Some disk) (Some now) one =
    begun_second (first disk) (second disk) disk now
    (subst (λ d. IsBegun (second disk) (after_all (first disk) disk) d) (sym one) (unbegun (second disk) (after_all (first disk) disk)))

broke_off : (first second : DiskState → List Change) (told now : Option DiskState) → IfSome told (λ disk. IsSomeAnd now (IsBegun (first disk) disk)) →
    IfSome told (λ disk. IsSomeAnd now (IsBegun (first disk ++ second disk) disk))
broke_off first second None now one = tt
broke_off first second (Some disk) None one = absurd one
broke_off first second (Some disk) (Some now) one = begun_first (first disk) (second disk) disk now one

same_ends : {T E : Type 0} (result : Result T E) (plan other : DiskState → List Change) (told now : Option DiskState) →
    IfSome told (λ disk. plan disk ≡ other disk) → IfSome told (λ disk. IsSomeAnd now (IsCarriedOut result (plan disk) disk)) →
    IfSome told (λ disk. IsSomeAnd now (IsCarriedOut result (other disk) disk))
same_ends result plan other None now same one = tt
same_ends result plan other (Some disk) now same one = subst (λ (p : List Change). IsSomeAnd now (IsCarriedOut result p disk)) same one

-- the same with whatever other error is answered
other_error : {S F : Type 0} (P : F → Type 0) (other : Result S F) (plan : DiskState → List Change) (told now : Option DiskState) →
    IsErrAnd other P → IfSome told (λ disk. IsSomeAnd now (IsBegun (plan disk) disk)) → IfSome told (λ disk. IsSomeAnd now (IsCarriedOut other (plan disk) disk))
other_error P (Ok y) plan told now is begun = absurd is
other_error P (Err f) plan told now is begun = begun

-- WHAT A CRASH LEAVES

module _ {D : Type 0} (shows : D → DiskShown) (old mid new : D) where
  abbrev LeavesAmid : Option DiskState → (DiskState → List Change) → Type 0
  LeavesAmid told plan = IfSome told (λ disk. LeavesOnly shows old new (LeftAmid (plan disk) disk))

  one_left : {T E : Type 0} (change : Change) (result : Result T E) (told : Option DiskState) →
      ((image : Image) → (shows old).left_since (shows old).moment image → Leaves told image) → IfSome told (λ disk. MayLeave disk (image_of disk)) →
      Changes change told result (shows new).told → Elapses (shows old) (shows new) → LeavesAmid told (λ _. change ∷ [])
  one_left change result None here reads is time = tt
  one_left change result (Some disk) here reads is time =
      goes_on shows old old new (LeftAmid (change ∷ []) disk)
      (started shows old (LeftAmid (change ∷ []) disk) (λ image left. inl (here image left))) time
      (λ image left. inr (inl (leaves_begun change (Some disk) result (shows new).told image is reads left)))

  joined_left : (first second : DiskState → List Change) (told between : Option DiskState) →
      IfSome told (λ disk. IsSomeAnd between (λ d. d ≡ after_all (first disk) disk)) →
      IfSome told (λ disk. LeavesOnly shows old mid (LeftAmid (first disk) disk)) →
      IfSome between (λ disk. LeavesOnly shows mid new (LeftAmid (second disk) disk)) →
      LeavesAmid told (λ disk. first disk ++ second (after_all (first disk) disk))
  joined_left first second None between is one two = tt
  joined_left first second (Some disk) None is one two = absurd is
  joined_left first second (Some disk) (Some d) is one two =
      let behind = second (after_all (first disk) disk) in
      then shows old mid new (LeftAmid (first disk) disk) (LeftAmid (second d) d) (LeftAmid (first disk ++ behind) disk) one two
      (λ image left. left_first (first disk) behind disk image left)
      (λ image left. left_second (first disk) behind disk image (subst (λ x. LeftAmid (second x) x image) is left))

  more_left : (first second : DiskState → List Change) (told : Option DiskState) → LeavesAmid told first → LeavesAmid told (λ disk. first disk ++ second disk)
  more_left first second None one = tt
  more_left first second (Some disk) one =
      weaker shows old new (LeftAmid (first disk) disk) (LeftAmid (first disk ++ second disk) disk) one
      (λ image left. left_first (first disk) (second disk) disk image left)

  same_left : (plan other : DiskState → List Change) (told : Option DiskState) → IfSome told (λ disk. plan disk ≡ other disk) → LeavesAmid told plan → LeavesAmid told other
  same_left plan other None same one = tt
  same_left plan other (Some disk) same one = subst (λ (p : List Change). LeavesOnly shows old new (LeftAmid p disk)) same one

  stays_left : (told : Option DiskState) → LeavesOnly shows old new (Leaves told) → LeavesAmid told (λ _. [])
  stays_left None moments = tt
  stays_left (Some disk) moments = moments

-- RUNS OF CALLS

-- all calls of a plan were made
abbrev pub Made : {D : Type 0} → (D → DiskShown) → (DiskState → List Change) → D → D → Type 0
Made shows plan old new = Follows {T = Unit {0}} {E = Unit {0}} shows plan old new (Ok tt)

module _ {D : Type 0} {shows : D → DiskShown} where
  -- a run in which the disk stays as it is follows the empty plan
  pub stays : {T E : Type 0} (result : Result T E) (old new : D) → (shows new).told ≡ (shows old).told → LeavesOnly shows old new (Leaves (shows old).told) →
      Follows shows (λ _. []) old new result
  stays result old new same moments =
      record { ends = stays_told result (shows old).told (shows new).told same; moments = stays_left shows old old new (shows old).told moments }

  -- before the first call
  pub begins : (old : D) → ((image : Image) → (shows old).left_since (shows old).moment image → Leaves (shows old).told image) → Made shows (λ _. []) old old
  begins old here = stays (Ok tt) old old refl (started shows old (Leaves (shows old).told) here)

  -- a whole plan, and then another as far as the answer says
  pub then_follows : {T E : Type 0} (result : Result T E) (first second : DiskState → List Change) (old mid new : D) →
      Made shows first old mid → Follows shows second mid new result →
      Follows shows (λ disk. first disk ++ second (after_all (first disk) disk)) old new result
  then_follows result first second old mid new one two = record {
    ends = joined result first second (shows old).told (shows mid).told (shows new).told one.ends two.ends;
    moments = joined_left shows old mid new first second (shows old).told (shows mid).told one.ends one.moments two.moments;
  }

  -- a plan, and then a run in which the disk stays as it is
  pub waits : (plan : DiskState → List Change) (old mid new : D) → Made shows plan old mid → (shows new).told ≡ (shows mid).told →
      LeavesOnly shows mid new (Leaves (shows mid).told) → Made shows plan old new
  waits plan old mid new one same moments =
      without_end plan old new (then_follows (Ok tt) plan (λ _. []) old mid new one (stays (Ok tt) mid new same moments))
    where
      without_end : (plan : DiskState → List Change) (old new : D) → Made shows (λ disk. plan disk ++ []) old new →
          Made shows plan old new
      without_end plan old new is =
          subst (λ (p : DiskState → List Change). Made shows p old new) (λ i disk. append-nil (plan disk) i) is

  -- a plan, and then a call that only reads
  pub looks : (plan : DiskState → List Change) (old mid new : D) → Made shows plan old mid →
      ((image : Image) → (shows mid).left_since (shows mid).moment image → Leaves (shows mid).told image) → (shows new).told ≡ (shows mid).told →
      Elapses (shows mid) (shows new) → Made shows plan old new
  looks plan old mid new one here same time =
      waits plan old mid new one same
      (goes_on shows mid mid new (Leaves (shows mid).told) (started shows mid (Leaves (shows mid).told) here) time
      (λ image left. subst (λ (o : Option DiskState). Leaves o image) same left))

  -- a plan, and then one changing call more, whether it succeeded or not
  pub tries : {T E : Type 0} (change : Change) (result : Result T E) (plan : DiskState → List Change) (old mid new : D) → Made shows plan old mid →
      ((image : Image) → (shows mid).left_since (shows mid).moment image → Leaves (shows mid).told image) → IfSome (shows mid).told (λ disk. MayLeave disk (image_of disk)) →
      Changes change (shows mid).told result (shows new).told → Elapses (shows mid) (shows new) →
      Follows shows (λ disk. plan disk ++ change ∷ []) old new result
  tries change result plan old mid new one here reads is time =
      then_follows result plan (λ _. change ∷ []) old mid new one (record {
        ends = one_done change result (shows mid).told (shows new).told is;
        moments = one_left shows mid mid new change result (shows mid).told here reads is time;
      })

  -- where it succeeded
  pub does : (change : Change) (plan : DiskState → List Change) (old mid new : D) → Made shows plan old mid →
      ((image : Image) → (shows mid).left_since (shows mid).moment image → Leaves (shows mid).told image) → IfSome (shows mid).told (λ disk. MayLeave disk (image_of disk)) →
      (shows new).told ≡ option_map (after change) (shows mid).told → Elapses (shows mid) (shows new) →
      Made shows (λ disk. plan disk ++ change ∷ []) old new
  does change plan old mid new one here reads is time =
      let ok : Result (Unit {0}) (Unit {0}) = Ok tt in tries change ok plan old mid new one here reads is time

  -- a plan was broken off at a call that failed, and some error is answered
  pub breaks_off : {T E S F : Type 0} (P : F → Type 0) (e : E) (other : Result S F) (first second : DiskState → List Change) (old new : D) → IsErrAnd other P →
      Follows {T = T} {E = E} shows first old new (Err e) → Follows shows (λ disk. first disk ++ second disk) old new other
  breaks_off P e other first second old new is one = record {
    ends = other_error P other (λ disk. first disk ++ second disk) (shows old).told (shows new).told is (broke_off first second (shows old).told (shows new).told one.ends);
    moments = more_left shows old old new first second (shows old).told one.moments;
  }

  -- the error is handed on as another one
  pub hands_on : {T E S F : Type 0} (P : F → Type 0) (e : E) (other : Result S F) (plan : DiskState → List Change) (old new : D) → IsErrAnd other P →
      Follows {T = T} {E = E} shows plan old new (Err e) → Follows shows plan old new other
  hands_on P e other plan old new is one =
      record { ends = other_error P other plan (shows old).told (shows new).told is one.ends; moments = one.moments }

  -- the same at one changing call
  pub fails : {E S F : Type 0} (P : F → Type 0) (e : E) (other : Result S F) (change : Change) (plan second : DiskState → List Change) (old mid new : D) →
      IsErrAnd other P → Made shows plan old mid → ((image : Image) → (shows mid).left_since (shows mid).moment image → Leaves (shows mid).told image) →
      IfSome (shows mid).told (λ disk. MayLeave disk (image_of disk)) → Changes {T = Unit {0}} change (shows mid).told (Err e) (shows new).told →
      Elapses (shows mid) (shows new) →
      Follows shows (λ disk. plan disk ++ change ∷ [] ++ second disk) old new other
  fails P e other change plan second old mid new is one here reads changes time =
      breaks_off {T = Unit {0}} P e other (λ disk. plan disk ++ change ∷ []) second old new is (tries change (Err e) plan old mid new one here reads changes time)

  -- a plan was carried out so far, and then given up with some error
  pub gives_up : {S F : Type 0} (P : F → Type 0) (other : Result S F) (first second : DiskState → List Change) (old new : D) → IsErrAnd other P →
      Made shows first old new → Follows shows (λ disk. first disk ++ second disk) old new other
  gives_up P other first second old new is one = record {
    ends = other_error P other (λ disk. first disk ++ second disk) (shows old).told (shows new).told is (stopped first second (shows old).told (shows new).told one.ends);
    moments = more_left shows old old new first second (shows old).told one.moments;
  }

  -- one plan is another one for what the old disk tells
  pub follows_same : {T E : Type 0} (result : Result T E) (plan other : DiskState → List Change) (old new : D) → IfSome (shows old).told (λ disk. plan disk ≡ other disk) →
      Follows shows plan old new result → Follows shows other old new result
  follows_same result plan other old new same one = record {
    ends = same_ends result plan other (shows old).told (shows new).told same one.ends;
    moments = same_left shows old old new plan other (shows old).told same one.moments;
  }

  -- what follows a plan with an answer of Ok has made it
  pub made : {T E : Type 0} (x : T) (plan : DiskState → List Change) (old new : D) → Follows {T = T} {E = E} shows plan old new (Ok x) →
      Made shows plan old new
  made x plan old new one = record { ends = one.ends; moments = one.moments }

  pub answers : {T E : Type 0} (x : T) (plan : DiskState → List Change) (old new : D) → Made shows plan old new →
      Follows {T = T} {E = E} shows plan old new (Ok x)
  answers x plan old new one = record { ends = one.ends; moments = one.moments }
