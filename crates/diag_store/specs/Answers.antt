-- The table of answers: which row is for a request, and what it answers.
use Rattle.std.specs.Prelude.{ℕ, ◌==◌, ◌+◌, ◌%◌, ◌&&◌, ◌||◌, not, Bool, true, false, if◌then◌else◌, List, [], ◌∷◌, find, position, length, map, nat_lt, slice_get, slice_index, slice_set, Option, Some, None, unwrap_or}
use Rattle.std.specs.List.{list_any}
use Rattle.diag_setup.specs.declared.raw.PatternItem.{PatternItem}
use Rattle.diag_setup.specs.declared.raw.PatternItem.TheVariants as pattern
use Rattle.diag_setup.specs.declared.raw.TemplateItem.{TemplateItem}
use Rattle.diag_setup.specs.declared.raw.TemplateItem.TheVariants as template
use Rattle.diag_store.specs.Security.{option_is}
use Rattle.diag_store.specs.declared.answers.Access.{Access}
use Rattle.diag_store.specs.declared.answers.AnswerRow.{AnswerRow}

-- ---- patterns

abbrev pub is_of : PatternItem → ℕ → Bool
is_of (pattern.Byte n) b = n == b
is_of pattern.Any b = true

-- whether a request has the bytes of these items, in order, and behind them none, or any where more may come
abbrev pub fits : List PatternItem → Bool → List ℕ → Bool
fits [] more [] = true
fits [] more (b ∷ p) = more
fits (x ∷ items) more [] = false
fits (x ∷ items) more (b ∷ p) = is_of x b && fits items more p

-- what the first byte of a request has to be
abbrev pub first_item : List PatternItem → PatternItem
first_item [] = pattern.Any
first_item (x ∷ items) = x

abbrev pub row_first : AnswerRow → PatternItem
row_first row = first_item row.pattern

-- ---- templates

-- the byte that an item stands for in the answer to a request
abbrev pub filled_item : List ℕ → TemplateItem → ℕ
filled_item p (template.Byte n) = n
filled_item p (template.OfRequest k) = slice_index p k
filled_item p template.Varies = 0

abbrev pub filled : List TemplateItem → List ℕ → List ℕ
filled items p = map (filled_item p) items

-- the template that is next
abbrev pub template_now : AnswerRow → List TemplateItem
template_now row = unwrap_or (slice_get row.templates row.next) []

-- no bytes are no message
abbrev pub sent_of : List ℕ → Option (List ℕ)
sent_of [] = None
sent_of (b ∷ bytes) = Some (b ∷ bytes)

-- what a row answers
abbrev pub row_reply : AnswerRow → List ℕ → Option (List ℕ)
row_reply row p = sent_of (filled (template_now row) p)

-- whether it answers, and doesn't leave that to the services
abbrev pub has_reply : AnswerRow → Bool
has_reply row = not (length row.templates == 0)

-- ---- which row applies

-- whether a row applies to a request of a tester that has access to so much: 0 is any session, and the level that is open
abbrev pub applies : Access → List ℕ → AnswerRow → Bool
applies access p row =
    fits row.pattern row.more p && (row.session == 0 || row.session == access.session)
    && (row.level == 0 || option_is access.unlocked row.level)

-- the index of the first that does, and the row at it
abbrev pub index_for : List AnswerRow → Access → List ℕ → Option ℕ
index_for rows access p = position (applies access p) rows

abbrev pub row_for : List AnswerRow → Access → List ℕ → Option AnswerRow
row_for rows access p = find (applies access p) rows

-- ---- what is next

-- the template behind the next one, and behind the last the first
abbrev pub next_after : AnswerRow → ℕ
next_after row =
    if length row.templates == 0 then row.next else (row.next + 1) % length row.templates

-- whether a row has its answer go later than at once
abbrev pub is_late : AnswerRow → Bool
is_late row = nat_lt 0 row.after_ms

abbrev pub any_late : List AnswerRow → Bool
any_late rows = list_any is_late rows

abbrev pub moved_on : AnswerRow → AnswerRow
moved_on row = record row { next = next_after row }

-- the rows once the one at this index has answered
abbrev pub with_moved_on : List AnswerRow → ℕ → Option AnswerRow → List AnswerRow
with_moved_on rows index None = rows
with_moved_on rows index (Some row) = slice_set rows index (moved_on row)

abbrev pub rows_moved_on : List AnswerRow → ℕ → List AnswerRow
rows_moved_on rows index = with_moved_on rows index (slice_get rows index)
