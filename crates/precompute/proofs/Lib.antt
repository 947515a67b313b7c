mod KeptParts
