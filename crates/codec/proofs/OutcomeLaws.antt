-- The outcomes of the writers, the decoder and the motif test: each return of their code, and what a caller whose input fits may cite.
use mathlib.Core.Path.{◌≡◌, refl, sym, ap, ap₂, ◌∙◌}
use mathlib.Core.Bool.{Bool, true, false, ◌&&◌}
use mathlib.Core.List.{List, [], ◌++◌}
use Prim.Native.Nat.{ℕ, ◌<◌, ◌≤◌}
use native.Mathlib.Omega.{arith}
use borrow.Author.Tests.{eq-eqb, ne_eqb, eqb-true, le-leb, lt-leb, leb-true}
use lib.ListN.{length, drop}
use Rattle.std.specs.Prelude.{Option, Some, None}
use lib.Dec.{eqb, leb}
use Rattle.lists.specs.Vocabulary.{choose}
use Rattle.strand.specs.Strands.{Strand, strand_of}
use Rattle.lists.proofs.ListLaws.{and_true, choose_yes, choose_no}
use Rattle.block.specs.Content.{length_in, strand_in, molecule_in, keeps_motif, entry_with, encode_molecule}
use Rattle.block.specs.Motif.{motif_handed_in, sound_motif}
use Rattle.block.specs.Block.{sound_molecule, sound_entry}
use Rattle.codec.specs.Outcomes.{Wrote, wrote, wrote_if, strand_fits, molecule_wrote, entry_wrote, Decoded, decoded, laid_over, decodes, molecule_decoded}
use Rattle.codec.specs.Outcomes.{motif_decoded, entry_keeps}
use Rattle.block.proofs.ContentLaws.{bases_count, molecule_size, molecule_fits, motif_size, motif_fits, entry_size, entry_fits}

-- ---- any writer

module _ (new old : List ℕ) where
  pub wrote_not : (fits : Bool) → fits ≡ false → wrote false old ≡ wrote_if fits new old
  unfolding wrote_if
  wrote_not fits e = ap₂ (λ (b : Bool) (l : List ℕ). wrote b l) (sym e) (sym (choose_no fits new old e))

  pub wrote_new : (fits : Bool) (x : List ℕ) → fits ≡ true → x ≡ new → wrote true x ≡ wrote_if fits new old
  unfolding wrote_if
  wrote_new fits x e q = ap₂ (λ (b : Bool) (l : List ℕ). wrote b l) (sym e) (q ∙ sym (choose_yes fits new old e))

  pub bytes_new : (fits r : Bool) (x : List ℕ) → fits ≡ true → wrote r x ≡ wrote_if fits new old → x ≡ new
  unfolding wrote_if
  bytes_new fits r x e q = ap (λ (w : Wrote). w.bytes) q ∙ choose_yes fits new old e

-- ---- what fits, by lengths

module _ (most size bases mates : ℕ) where
  pub fits_size : (size ≡ 512 → ⊥) → false ≡ strand_fits size most bases mates
  unfolding strand_fits
  fits_size h = rw (ne_eqb size 512 h)

  pub fits_long : size ≡ 512 → most < bases → false ≡ strand_fits size most bases mates
  unfolding strand_fits
  fits_long e h = rw (eq-eqb size 512 e, lt-leb bases most h)

  pub fits_last : size ≡ 512 → bases ≤ most → eqb mates bases ≡ strand_fits size most bases mates
  unfolding strand_fits
  fits_last e h = rw (eq-eqb size 512 e, le-leb bases most h)

  pub strand_fits_lem : size ≡ 512 → bases ≤ most → mates ≡ bases → strand_fits size most bases mates ≡ true
  unfolding strand_fits
  strand_fits_lem e h m = rw (eq-eqb size 512 e, le-leb bases most h, eq-eqb mates bases m)

  pub fits_all : strand_fits size most bases mates ≡ true → (size ≡ 512) × (bases ≤ most) × (mates ≡ bases)
  unfolding strand_fits
  fits_all e =
      let x = and_true (eqb size 512 && leb bases most) (eqb mates bases) e in
      let y = and_true (eqb size 512) (leb bases most) x.0 in
      (eqb-true size 512 y.0, leb-true bases most y.1, eqb-true mates bases x.1)

-- ---- encode_molecule

module _ (s bases mates : List ℕ) where
  pub molecule_not : strand_fits (length s) 160 (length bases) (length mates) ≡ false → wrote false s ≡ molecule_wrote s bases mates
  unfolding molecule_wrote
  molecule_not e = wrote_not (encode_molecule (strand_of bases mates)) s _ e

  pub molecule_done : (x : List ℕ) → strand_fits (length s) 160 (length bases) (length mates) ≡ true → x ≡ encode_molecule (strand_of bases mates)
      → wrote true x ≡ molecule_wrote s bases mates
  unfolding molecule_wrote
  molecule_done x e q = wrote_new (encode_molecule (strand_of bases mates)) s _ x e q

-- ---- encode_entry

module _ (s bases mates m₁ m₂ : List ℕ) where
  pub entry_too_long : strand_fits (length s) 120 (length bases) (length mates) ≡ false → wrote false s ≡ entry_wrote s bases mates m₁ m₂
  unfolding entry_wrote
  entry_too_long e = wrote_not (entry_with [] bases mates m₁ m₂) s _ (rw e)

  module _ (fits : strand_fits (length s) 120 (length bases) (length mates) ≡ true) where
    pub entry_searched_size : (length m₁ ≡ 64 → ⊥) → wrote false s ≡ entry_wrote s bases mates m₁ m₂
    unfolding entry_wrote
    entry_searched_size h = wrote_not (entry_with [] bases mates m₁ m₂) s _ (rw (fits, ne_eqb (length m₁) 64 h))

    pub entry_hits_size : length m₁ ≡ 64 → (length m₂ ≡ 64 → ⊥) → wrote false s ≡ entry_wrote s bases mates m₁ m₂
    unfolding entry_wrote
    entry_hits_size h₁ h₂ = wrote_not (entry_with [] bases mates m₁ m₂) s _ (rw (fits, eq-eqb (length m₁) 64 h₁, ne_eqb (length m₂) 64 h₂))

    pub entry_done : (x : List ℕ) → length m₁ ≡ 64 → length m₂ ≡ 64 → x ≡ entry_with [] bases mates m₁ m₂ → wrote true x ≡ entry_wrote s bases mates m₁ m₂
    unfolding entry_wrote
    entry_done x h₁ h₂ q = wrote_new (entry_with [] bases mates m₁ m₂) s _ x (rw (fits, eq-eqb (length m₁) 64 h₁, eq-eqb (length m₂) 64 h₂)) q

  -- Where motif and maps fit, the block is written.
  pub entry_written : (r : Bool) (x : List ℕ) → length s ≡ 512 → length bases ≤ 120 → length mates ≡ length bases → length m₁ ≡ 64 → length m₂ ≡ 64
      → wrote r x ≡ entry_wrote s bases mates m₁ m₂ → x ≡ entry_with [] bases mates m₁ m₂
  unfolding entry_wrote
  entry_written r x hs hb hm h₁ h₂ q =
      bytes_new (entry_with [] bases mates m₁ m₂) s _ r x
      (rw (strand_fits_lem 120 (length s) (length bases) (length mates) hs hb hm, eq-eqb (length m₁) 64 h₁, eq-eqb (length m₂) 64 h₂)) q

-- ---- decode_molecule

module _ (s : List ℕ) (b m : ℕ) where
  pub decodes_no_block : (length s ≡ 512 → ⊥) → false ≡ decodes s b m
  unfolding decodes
  decodes_no_block h = rw (ne_eqb (length s) 512 h)

  module _ (size : length s ≡ 512) where
    pub decodes_too_long : 160 < length_in s → false ≡ decodes s b m
    unfolding decodes
    decodes_too_long h = rw (eq-eqb (length s) 512 size, lt-leb (length_in s) 160 h)

    pub decodes_few_bases : length_in s ≤ 160 → b < length_in s → false ≡ decodes s b m
    unfolding decodes
    decodes_few_bases h hb = rw (eq-eqb (length s) 512 size, le-leb (length_in s) 160 h, lt-leb (length_in s) b hb)

    pub decodes_by_mates : length_in s ≤ 160 → length_in s ≤ b → leb (length_in s) m ≡ decodes s b m
    unfolding decodes
    decodes_by_mates h hb = rw (eq-eqb (length s) 512 size, le-leb (length_in s) 160 h, le-leb (length_in s) b hb)

  pub decodes_all : decodes s b m ≡ true → (length s ≡ 512) × (length_in s ≤ 160) × (length_in s ≤ b) × (length_in s ≤ m)
  unfolding decodes
  decodes_all e =
      let x = and_true (eqb (length s) 512 && leb (length_in s) 160 && leb (length_in s) b) (leb (length_in s) m) e in
      let y = and_true (eqb (length s) 512 && leb (length_in s) 160) (leb (length_in s) b) x.0 in
      let z = and_true (eqb (length s) 512) (leb (length_in s) 160) y.0 in
      (eqb-true (length s) 512 z.0, leb-true (length_in s) 160 z.1, leb-true (length_in s) b y.1, leb-true (length_in s) m x.1)

module _ (s bases mates : List ℕ) where
  pub decoded_not : decodes s (length bases) (length mates) ≡ false → decoded None bases mates ≡ molecule_decoded s bases mates
  unfolding molecule_decoded
  decoded_not e = sym (choose_no _ _ _ e)

  decoded_eq : {r r' : ℕ} {x x' y y' : List ℕ} → r ≡ r' → x ≡ x' → y ≡ y' → decoded (Some r) x y ≡ decoded (Some r') x' y'
  decoded_eq er ex ey = λ i. record { count = Some (er i); bases = ex i; mates = ey i }

  pub decoded_done : (r : ℕ) (x y : List ℕ) → decodes s (length bases) (length mates) ≡ true → r ≡ length_in s
      → x ≡ (molecule_in s).bases ++ drop r bases → y ≡ (molecule_in s).mates ++ drop r mates → decoded (Some r) x y ≡ molecule_decoded s bases mates
  unfolding molecule_decoded laid_over choose
  decoded_done r x y e er ex ey =
      let f = decodes_all s (length bases) (length mates) e in
      let k : r ≡ length (molecule_in s).bases = er ∙ bases_count s f.0 f.1 in
      rw e (decoded_eq k (ex ∙ ap (λ (n : ℕ). (molecule_in s).bases ++ drop n bases) k) (ey ∙ ap (λ (n : ℕ). (molecule_in s).mates ++ drop n mates) k))

  -- A block of at most 160 bases is decoded into slices of 160 places.
  laid_in : (r : Option ℕ) (x y : List ℕ) → length s ≡ 512 → length_in s ≤ 160 → 160 ≤ length bases → 160 ≤ length mates
      → decoded r x y ≡ molecule_decoded s bases mates → decoded r x y ≡ laid_over (molecule_in s) bases mates
  unfolding molecule_decoded decodes choose
  laid_in r x y size n hb hm q =
      rw (
        eq-eqb (length s) 512 size,
        le-leb (length_in s) 160 n,
        le-leb (length_in s) (length bases) (omega arith),
        le-leb (length_in s) (length mates) (omega arith),
      ) at q

  pub laid_some : (r : Option ℕ) (x y : List ℕ) → length s ≡ 512 → length_in s ≤ 160 → 160 ≤ length bases → 160 ≤ length mates
      → decoded r x y ≡ molecule_decoded s bases mates → r ≡ Some (length (molecule_in s).bases)
  unfolding laid_over
  laid_some r x y size n hb hm q = ap (λ (w : Decoded). w.count) (laid_in r x y size n hb hm q)

  pub laid_there : (r : Option ℕ) (x y : List ℕ) → length s ≡ 512 → length_in s ≤ 160 → 160 ≤ length bases → 160 ≤ length mates
      → decoded r x y ≡ molecule_decoded s bases mates
      → (r ≡ Some (length (molecule_in s).bases)) × (x ≡ (molecule_in s).bases ++ drop (length (molecule_in s).bases) bases)
      × (y ≡ (molecule_in s).mates ++ drop (length (molecule_in s).bases) mates)
  unfolding laid_over
  laid_there r x y size n hb hm q =
      let p = laid_in r x y size n hb hm q in (ap (λ (w : Decoded). w.count) p, ap (λ (w : Decoded). w.bases) p, ap (λ (w : Decoded). w.mates) p)

  pub laid_at : (r : ℕ) (x y : List ℕ) → length s ≡ 512 → length_in s ≤ 160 → 160 ≤ length bases → 160 ≤ length mates
      → decoded (Some r) x y ≡ molecule_decoded s bases mates
      → (r ≡ length (molecule_in s).bases) × (x ≡ (molecule_in s).bases ++ drop r bases) × (y ≡ (molecule_in s).mates ++ drop r mates)
  unfolding laid_over
  laid_at r x y size n hb hm q =
      let p = laid_in (Some r) x y size n hb hm q in
      let some : Some r ≡ Some (length (molecule_in s).bases) = ap (λ (w : Decoded). w.count) p in
      let k : r ≡ length (molecule_in s).bases = cc in (
        k,
        ap (λ (w : Decoded). w.bases) p ∙ ap (λ (n : ℕ). (molecule_in s).bases ++ drop n bases) (sym k),
        ap (λ (w : Decoded). w.mates) p ∙ ap (λ (n : ℕ). (molecule_in s).mates ++ drop n mates) (sym k),
      )

  -- The same of a sound block of a catalog: whatever the decoder answers, the block was decoded.
  pub decoded_there : (r : Option ℕ) (x y : List ℕ) → sound_molecule s ≡ true → 160 ≤ length bases → 160 ≤ length mates
      → decoded r x y ≡ molecule_decoded s bases mates
      → (r ≡ Some (length (molecule_in s).bases)) × (x ≡ (molecule_in s).bases ++ drop (length (molecule_in s).bases) bases)
      × (y ≡ (molecule_in s).mates ++ drop (length (molecule_in s).bases) mates)
  decoded_there r x y ok hb hm q = laid_there r x y (molecule_size s ok) (molecule_fits s ok) hb hm q

  pub decoded_some : (r : Option ℕ) (x y : List ℕ) → sound_molecule s ≡ true → 160 ≤ length bases → 160 ≤ length mates
      → decoded r x y ≡ molecule_decoded s bases mates → r ≡ Some (length (molecule_in s).bases)
  decoded_some r x y ok hb hm q = laid_some r x y (molecule_size s ok) (molecule_fits s ok) hb hm q

  pub decoded_at : (r : ℕ) (x y : List ℕ) → sound_molecule s ≡ true → 160 ≤ length bases → 160 ≤ length mates → decoded (Some r) x y
      ≡ molecule_decoded s bases mates
      → (r ≡ length (molecule_in s).bases) × (x ≡ (molecule_in s).bases ++ drop r bases) × (y ≡ (molecule_in s).mates ++ drop r mates)
  decoded_at r x y ok hb hm q = laid_at r x y (molecule_size s ok) (molecule_fits s ok) hb hm q

-- ---- decode_motif

module _ (s bases mates : List ℕ) where
  pub motif_decoded_lem : molecule_decoded s bases mates ≡ motif_decoded s bases mates
  unfolding molecule_decoded motif_decoded molecule_in motif_handed_in strand_in
  motif_decoded_lem = refl

  -- A block that holds a motif is decoded into slices of 160 places.
  pub motif_there : (r : Option ℕ) (x y : List ℕ) → sound_motif s ≡ true → 160 ≤ length bases → 160 ≤ length mates
      → decoded r x y ≡ motif_decoded s bases mates
      → (r ≡ Some (length (motif_handed_in s).bases)) × (x ≡ (motif_handed_in s).bases ++ drop (length (motif_handed_in s).bases) bases)
      × (y ≡ (motif_handed_in s).mates ++ drop (length (motif_handed_in s).bases) mates)
  unfolding molecule_in motif_handed_in strand_in
  motif_there r x y ok hb hm q = laid_there s bases mates r x y (motif_size s ok) (motif_fits s ok) hb hm (q ∙ sym motif_decoded_lem)

  pub motif_some : (r : Option ℕ) (x y : List ℕ) → sound_motif s ≡ true → 160 ≤ length bases → 160 ≤ length mates
      → decoded r x y ≡ motif_decoded s bases mates → r ≡ Some (length (motif_handed_in s).bases)
  unfolding molecule_in motif_handed_in strand_in
  motif_some r x y ok hb hm q = laid_some s bases mates r x y (motif_size s ok) (motif_fits s ok) hb hm (q ∙ sym motif_decoded_lem)

  pub motif_at : (r : ℕ) (x y : List ℕ) → sound_motif s ≡ true → 160 ≤ length bases → 160 ≤ length mates
      → decoded (Some r) x y ≡ motif_decoded s bases mates
      → (r ≡ length (motif_handed_in s).bases) × (x ≡ (motif_handed_in s).bases ++ drop r bases) × (y ≡ (motif_handed_in s).mates ++ drop r mates)
  unfolding molecule_in motif_handed_in strand_in
  motif_at r x y ok hb hm q =
      laid_at s bases mates r x y (motif_size s ok) (motif_fits s ok) hb hm (q ∙ sym motif_decoded_lem)

-- ---- keeps

module _ (s : List ℕ) (q : Strand) where
  pub keeps_no_block : (length s ≡ 512 → ⊥) → false ≡ entry_keeps s q
  unfolding entry_keeps
  keeps_no_block h = rw (ne_eqb (length s) 512 h)

  module _ (size : length s ≡ 512) where
    pub keeps_too_long : 120 < length_in s → false ≡ entry_keeps s q
    unfolding entry_keeps
    keeps_too_long h = rw (eq-eqb (length s) 512 size, lt-leb (length_in s) 120 h)

    pub keeps_by_motif : length_in s ≤ 120 → keeps_motif s q ≡ entry_keeps s q
    unfolding entry_keeps
    keeps_by_motif h = rw (eq-eqb (length s) 512 size, le-leb (length_in s) 120 h)

  -- Of a sound entry the test is whether it keeps the motif.
  pub keeps_sound : sound_entry s ≡ true → entry_keeps s q ≡ keeps_motif s q
  keeps_sound ok = sym (keeps_by_motif (entry_size s ok) (entry_fits s ok))
