-- How the rows of a document are linked, and what a document keeps.
use Rattle.std.specs.Prelude.{◌≡◌, ℕ, suc, ◌^◌, ◌<◌, ◌≤◌, ◌⊎◌, List, length, map, slice_index, slice_index_or}
use Rattle.xml_spec.specs.Identifiers.{identifiers}
use Rattle.tree_rows.specs.Rows.{Row, nodes_at}
use Rattle.saml_tree.specs.Documents.{IsSpelled}
use Rattle.tree_rows.specs.Shaped.{IsShaped}
use Rattle.saml_tree.specs.Kept.{HaveRanges}
use Rattle.saml_tree.specs.Index.{IsIndex}
use Rattle.saml_tree.specs.declared.ids.Ids.{Ids}
use Rattle.saml_tree.specs.Resolved.{AreResolved}
use Rattle.tree_rows.specs.declared.node.Link.{Link}
use Rattle.saml_tree.specs.declared.names.Names.{Names}

-- how deep each row stands
abbrev pub depths_of : List Row → List ℕ
depths_of rows = map (λ row. row.depth) rows

-- row k stands right in row `parent`: that one is less deep by one, and all between them are at least as deep as row k
pub record IsParent (depths : List ℕ) (k parent : ℕ) : Type 0 where
  pub before : parent < k
  pub one_less : suc (slice_index depths parent) ≡ slice_index depths k
  pub between : (i : ℕ) → parent < i → i < k → slice_index depths k ≤ slice_index depths i

-- the rows that stand in row k end in front of row `end`
pub record IsEnd (depths : List ℕ) (k end : ℕ) : Type 0 where
  pub behind : k < end
  pub in_range : end ≤ length depths
  pub deeper : (i : ℕ) → k < i → i < end → slice_index depths k < slice_index depths i
  pub stops : end < length depths → slice_index depths end ≤ slice_index depths k

-- each of these links but the first has its row's parent
pub record HaveParents (depths : List ℕ) (links : List Link) : Type 0 where
  pub each : (k : ℕ) (link : Link) → 0 < k → k < length links → IsParent depths k (slice_index_or links k link).parent

-- each of these links from number `from` on has its row's end
pub record HaveEnds (depths : List ℕ) (from : ℕ) (links : List Link) : Type 0 where
  pub each : (k : ℕ) (link : Link) → from ≤ k → k < length links → IsEnd depths k (slice_index_or links k link).end

-- there is a link for each row, with its parent and its end
pub record AreLinked (depths : List ℕ) (links : List Link) : Type 0 where
  pub count : length links ≡ length depths
  pub parents : HaveParents depths links
  pub ends : HaveEnds depths 0 links

-- element n is open at this depth: what was read behind it stands in it
pub record IsOpen (depths : List ℕ) (depth n : ℕ) : Type 0 where
  pub there : n < length depths
  pub at : slice_index depths n ≡ depth
  pub deeper : (k : ℕ) → n < k → k < length depths → depth < slice_index depths k

-- row k is at its end; what is read next, in this many open elements, does not stand in it
pub record IsClosed (depths : List ℕ) (open_depth k end : ℕ) : Type 0 where
  pub is_end : IsEnd depths k end
  pub last : end ≡ length depths → open_depth ≤ slice_index depths k

-- The links of the rows so far, with the numbers of the open elements, the outermost first: each row has its parent,
-- and one that is not open its end.
pub record AreLinkedSoFar (depths : List ℕ) (links : List Link) (numbers : List ℕ) : Type 0 where
  pub count : length links ≡ length depths
  pub opened : (i : ℕ) → i < length numbers → IsOpen depths i (slice_index numbers i)
  pub parents : (k : ℕ) (link : Link) → k < length links → 0 < slice_index depths k →
      IsParent depths k (slice_index_or links k link).parent
  pub ends : (k : ℕ) (link : Link) → k < length links →
      ((i : ℕ) × (i < length numbers) × (slice_index numbers i ≡ k))
      ⊎ IsClosed depths (length numbers) k (slice_index_or links k link).end

-- what a document keeps: the rows of one tree, which the text spells, the elements' places in the text, the links, the
-- namespaces of the names, and the elements by their IDs
pub record IsKept (text : List ℕ) (rows : List Row) (links : List Link) (names : Names) (ids : Ids) : Type 0 where
  pub shaped : IsShaped rows
  pub ranges : HaveRanges text rows
  pub count : length rows < 2 ^ 32
  pub linked : AreLinked (depths_of rows) links
  pub resolved : AreResolved rows names
  pub spelled : IsSpelled text (nodes_at 0 rows)
  pub indexed : IsIndex (identifiers (nodes_at 0 rows)) ids
