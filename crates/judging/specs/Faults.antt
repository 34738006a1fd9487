-- Document 01's number and values for each fault.
use Rattle.judging.specs.declared.fault.Fault.{Fault}
use Rattle.judging.specs.declared.fault.Fault.TheVariants.{Width, Length, HighBit, RowZero, RowPair, Triple, Call, Card, List}
use Rattle.judging.specs.declared.fault.CallFault.{CallFault}
use Rattle.judging.specs.declared.fault.CallFault.TheVariants.{InverseOfZero, TraceOne, OutputShort, NoType, BadGate}
use Rattle.judging.specs.declared.fault.CardFault.{CardFault}
use Rattle.judging.specs.declared.fault.CardFault.TheVariants.{Ends, Number, Form, Place, Tail}
use Rattle.judging.specs.declared.fault.ListFault.{ListFault}
use Rattle.judging.specs.declared.fault.ListFault.TheVariants.{Size, Form as ListForm, Output}
use Rattle.judging.specs.declared.fault.FaultNumber.{FaultNumber}

-- the columns Number and Returned of document 01's table of faults, of what a call finds wrong beside widths, lengths, bits and rules
abbrev pub call_number_of : CallFault → FaultNumber
call_number_of InverseOfZero = (9, 0, 0)
call_number_of TraceOne = (10, 0, 0)
call_number_of OutputShort = (11, 0, 0)
call_number_of NoType = (17, 0, 0)
call_number_of BadGate = (18, 0, 0)

-- the same, of what is found in a card
abbrev pub card_number_of : CardFault → FaultNumber
card_number_of Ends = (12, 0, 0)
card_number_of Number = (13, 0, 0)
card_number_of Form = (14, 0, 0)
card_number_of Place = (15, 0, 0)
card_number_of Tail = (16, 0, 0)

-- document 02's numbers for a gate list that is handed in to be accepted, and what is returned beside them
abbrev pub list_number_of : ListFault → FaultNumber
list_number_of Size = (19, 0, 0)
list_number_of ListForm = (20, 0, 0)
list_number_of (Output r) = (21, r, 0)

-- the columns Number and Returned of document 01's table of faults: the number, and what is returned beside it
abbrev pub number_of : Fault → FaultNumber
number_of Width = (1, 0, 0)
number_of Length = (2, 0, 0)
number_of HighBit = (3, 0, 0)
number_of RowZero = (4, 0, 0)
number_of (RowPair d) = (5, d, 0)
number_of (Triple i j) = (6, i, j)
number_of (Call c) = call_number_of c
number_of (Card c) = card_number_of c
number_of (List c) = list_number_of c

-- 12 to 16, as the rules of a card name them
abbrev pub card_ends : Fault
card_ends = Card Ends

abbrev pub card_number : Fault
card_number = Card Number

abbrev pub card_form : Fault
card_form = Card Form

abbrev pub card_place : Fault
card_place = Card Place

abbrev pub card_tail : Fault
card_tail = Card Tail
