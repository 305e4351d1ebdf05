-- "How a record is laid out", "Head (10)", "Names (11)" and "References (13)": a row for each kind.
-- What a rule asks of a kind is read off its row, so that no rule goes over the kinds one by one.
use Rattle.std.specs.Prelude.{ℕ, List, [], ◌∷◌, get_or}

-- Names (11)
pub data NameRule : Type 0 where
  offset0 any_name offset0_or_identifier identifier non_empty section_name : NameRule

-- References (13)
pub data RefRule : Type 0 where
  void_or_plain plain an_int a_proto a_var taggable : RefRule

-- what a word of a record is: a name offset, a reference that is no by-value one, a by-value reference, or anything else
pub data Role : Type 0 where
  names : NameRule → Role
  refers : RefRule → Role
  holds : RefRule → Role
  number : Role

-- which numbers a part of a head may be
pub data Values : Type 0 where
  free : Values
  one_of : List ℕ → Values

-- where an exact size comes from: 8, the size word, count times element, the referent, or nowhere
pub data SizeRule : Type 0 where
  eight size_word count_times referent no_size : SizeRule

pub record Row : Type 0 where
  pub flag : Values
  pub vlen : Values
  pub third_values : Values
  pub third_role : Role
  pub name : NameRule
  -- the roles of the tail's words that stand once, and of those that stand for each of vlen entries
  pub once : List Role
  pub each : List Role
  pub size : SizeRule

abbrev row : Values → Values → Values → Role → NameRule → List Role → List Role → SizeRule → Row
row f v t r n o e s =
    record { flag = f; vlen = v; third_values = t; third_role = r; name = n; once = o; each = e; size = s }

abbrev nought : Values
nought = one_of (0 ∷ [])

-- the row of kind 0, which void and a number above the count read as, and of 20 to 31, which report 7 has refused before a rule asks:
-- no word of it is a name or a reference, and it has no size
abbrev unknown : Row
unknown = row nought nought free number offset0 [] [] no_size

abbrev member : List Role
member = names offset0_or_identifier ∷ holds plain ∷ number ∷ []

abbrev alias_to : NameRule → Values → Row
alias_to n f = row f nought free (holds void_or_plain) n [] [] referent

unfoldable pub rows : List Row
rows =
    unknown
    --  kind_flag, vlen, third word and its role, name, tail once, tail per entry, size
    ∷ row nought nought (one_of (1 ∷ 2 ∷ 4 ∷ 8 ∷ 16 ∷ [])) number any_name (number ∷ []) [] size_word  -- INT
    ∷ row nought nought free (refers void_or_plain) offset0 [] [] eight  -- PTR
    ∷ row nought nought nought number offset0 (holds plain ∷ refers an_int ∷ number ∷ []) [] count_times  -- ARRAY
    ∷ row free free free number offset0_or_identifier [] member size_word  -- STRUCT
    ∷ row free free free number offset0_or_identifier [] member size_word  -- UNION
    ∷ row free free (one_of (1 ∷ 2 ∷ 4 ∷ 8 ∷ [])) number offset0_or_identifier [] (names identifier ∷ number ∷ []) size_word  -- ENUM
    ∷ row free nought nought number identifier [] [] no_size  -- FWD
    ∷ alias_to identifier nought  -- TYPEDEF
    ∷ alias_to offset0 nought  -- VOLATILE
    ∷ alias_to offset0 nought  -- CONST
    ∷ alias_to offset0 nought  -- RESTRICT
    ∷ row nought (one_of (0 ∷ 1 ∷ [])) free (refers a_proto) identifier [] [] no_size  -- FUNC, whose vlen is its linkage
    ∷ row nought free free (refers void_or_plain) offset0 [] (names offset0_or_identifier ∷ refers void_or_plain ∷ []) no_size  -- FUNC_PROTO
    ∷ row nought nought free (holds plain) identifier (number ∷ []) [] referent  -- VAR
    ∷ row nought free free number section_name [] (refers a_var ∷ number ∷ number ∷ []) size_word  -- DATASEC
    ∷ row nought nought (one_of (2 ∷ 4 ∷ 8 ∷ 12 ∷ 16 ∷ [])) number any_name [] [] size_word  -- FLOAT
    ∷ row free nought free (refers taggable) non_empty (number ∷ []) [] no_size  -- DECL_TAG
    ∷ alias_to non_empty free  -- TYPE_TAG
    ∷ row free free (one_of (1 ∷ 2 ∷ 4 ∷ 8 ∷ [])) number offset0_or_identifier [] (names identifier ∷ number ∷ number ∷ []) size_word  -- ENUM64
    ∷ []

unfoldable pub row_of : ℕ → Row
row_of k = get_or rows k unknown
